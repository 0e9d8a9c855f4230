-- Definitions that only proofs and private functions use: no clause of a public function cites
-- them.
pub mod EndedRows
pub mod PackedLimits
pub mod PartData
pub mod ReplayData
