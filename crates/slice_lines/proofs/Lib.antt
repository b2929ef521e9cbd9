pub mod Testing
pub mod Rows
