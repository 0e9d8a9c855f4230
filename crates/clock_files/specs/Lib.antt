pub mod Audits
pub mod Listings
pub mod Serving
pub mod inside
