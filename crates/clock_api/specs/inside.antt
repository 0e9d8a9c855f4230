-- Definitions that only proofs and private functions use: no clause of a public function cites
-- them.
pub mod Routing
pub mod ReplyLines
