-- What only proofs and private functions use: no clause of a public call cites it.
pub mod Listed
