mod Grammar
mod Limited
mod Lines
mod NumberText
mod PriceLines
pub mod Reading
pub mod ServeOptions
