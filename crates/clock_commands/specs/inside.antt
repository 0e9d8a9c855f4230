-- Definitions that only proofs and private functions use. No clause of a public call names one.
pub mod Answered
