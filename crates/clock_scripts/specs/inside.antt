-- What only proofs and private functions use: no clause of a public call cites it.
pub mod Arrays
pub mod Blocks
pub mod Bodies
pub mod Heads
pub mod Prefixes
pub mod RequestTexts
pub mod SincereSheets
