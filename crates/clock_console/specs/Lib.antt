pub mod Input
pub mod PriceLines
pub mod FaultLines
pub mod Prices
pub mod Words
pub mod inside
