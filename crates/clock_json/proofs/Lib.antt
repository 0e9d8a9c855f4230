pub mod LexLaws
mod Turns
mod FieldLaws
pub mod Steps
pub mod CompactLaws
mod DigitLaws
mod PlainLaws
pub mod JsonLaws
pub mod TreeLaws
