-- Definitions that only proofs and private functions use. No clause of a public call cites them.
pub mod OpenRounds
pub mod Rounds
pub mod Stored
