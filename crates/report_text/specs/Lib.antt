pub mod ReportText
pub mod RunStatus
