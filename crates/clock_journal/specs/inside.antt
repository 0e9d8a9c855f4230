-- What only proofs and private functions use: no clause of a public call cites it.
pub mod Replays
pub mod Shown
pub mod Pieces
pub mod Leveling
