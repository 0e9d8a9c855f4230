pub mod Reports
pub mod ReportText
pub mod FinalReport
pub mod Writers
