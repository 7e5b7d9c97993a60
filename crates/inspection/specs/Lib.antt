pub mod Inspection
pub mod Rows
