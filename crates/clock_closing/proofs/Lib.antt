pub mod Closings
pub mod Joined
pub mod OpenRounds
pub mod Sums
pub mod Eligible
pub mod Held
pub mod RoundResults
pub mod Posts
mod SlipDemands
mod Steps
