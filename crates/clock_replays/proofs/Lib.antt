pub mod EndedRowLaws
pub mod PackedLimitLaws
pub mod CheckLaws
pub mod DocumentLaws
mod FirstVersionLaws
mod ReplayDataLaws
mod Examples
