pub mod BidderPages
pub mod OperatorPages
pub mod PublicPages
pub mod RefusalPage
pub mod Refusals
pub mod Rooms
pub mod Values
pub mod inside
