-- What only proofs and private functions use: no clause of a public call cites it.
pub mod Digits
pub mod Marks
pub mod Quotes
pub mod Reading
