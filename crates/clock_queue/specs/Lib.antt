pub mod Bound
pub mod inside
