-- Definitions that only proofs and private functions use. No contract of a public function cites
-- them.
pub mod Board
pub mod UnderWay
