pub mod Keeping
pub mod Accepted
pub mod Exchanges
pub mod Serving
pub mod Laws
pub mod Generations
pub mod MirroredGenerations
pub mod inside
