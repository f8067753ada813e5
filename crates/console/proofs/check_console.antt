pub mod ReportLaws
pub mod SourceLaws
