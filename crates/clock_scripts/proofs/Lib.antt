pub mod Leaving
pub mod SheetWalks
pub mod TextPieces
pub mod PrefixLaws
mod SincereExamples
pub mod PutHeads
pub mod WrittenLaws
pub mod ArrayLaws
