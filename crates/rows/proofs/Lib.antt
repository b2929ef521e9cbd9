pub mod RowLine
pub mod Values
