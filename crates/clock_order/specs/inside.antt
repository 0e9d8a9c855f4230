-- Definitions that only proofs and private functions use. No clause of a public call names one.
pub mod Checked
pub mod Keyed
pub mod KeyLaws
pub mod OrderKeyLaws
pub mod TieTests
