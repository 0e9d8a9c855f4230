pub mod EndedRows
pub mod PackedLimits
pub mod Replays
pub mod ReplayShape
pub mod ReplayChecks
pub mod ReplayDocument
pub mod FirstVersion
pub mod inside
