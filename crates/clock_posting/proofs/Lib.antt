pub mod Ranges
pub mod Excess
pub mod Laws
pub mod Posted
pub mod NextPrices
mod Examples
pub mod SheetLines
