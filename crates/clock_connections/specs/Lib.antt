pub mod Connections
pub mod Arrivals
pub mod Pieces
pub mod inside
