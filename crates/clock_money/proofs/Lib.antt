pub mod RoundingLaws
pub mod PriceLaws
pub mod PointLaws
pub mod Raising
mod Examples
