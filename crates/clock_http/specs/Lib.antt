pub mod Scans
pub mod Heads
pub mod Decimals
pub mod HeaderLines
pub mod Framing
pub mod FramingLaws
pub mod Shown
pub mod inside
