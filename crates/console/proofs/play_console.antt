pub mod FitLaws
pub mod ReportLaws
