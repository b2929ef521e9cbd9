pub mod Picture
pub mod Putting
pub mod ColumnLine
pub mod RowLine
