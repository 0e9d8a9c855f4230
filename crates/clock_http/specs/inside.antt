-- Definitions that only proofs and private functions use: no clause of a public function cites
-- them.
pub mod Followed
pub mod Framed
pub mod HeadFields
pub mod HeadParts
pub mod HeadTests
