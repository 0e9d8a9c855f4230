mod Examples
pub mod RoundLaws
pub mod WonLaws
pub mod Rows
