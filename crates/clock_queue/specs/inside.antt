-- Definitions that only proofs and private functions use. No contract of a public function cites
-- them.
pub mod Costs
pub mod Lines
pub mod Ready
pub mod Queue
