-- Definitions that only proofs and private functions use. No clause of a public call cites them.
pub mod Ways
