pub mod ReportLines
pub mod ReportOrder
