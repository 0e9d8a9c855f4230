mod CompactBidLaws
mod TieLaws
pub mod BodyScanLaws
