pub mod Prefixes
mod HeadLaws
mod LineLaws
mod ScanLaws
mod DecimalLaws
mod HeaderLaws
mod TextLaws
pub mod ProgressLaws
pub mod FramedLaws
mod ResultLaws
mod Examples
