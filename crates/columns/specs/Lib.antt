pub mod Bands
pub mod Words
pub mod Rows
