pub mod Joined
pub mod LineRanges
pub mod ReportTests
pub mod ReportTexts
pub mod OrderStates
pub mod WholeReports
pub mod ReportAnswers
