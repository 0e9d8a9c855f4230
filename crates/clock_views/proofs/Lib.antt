pub mod Codes
pub mod Lists
pub mod Names
pub mod Pushes
pub mod Rooms
pub mod Texts
