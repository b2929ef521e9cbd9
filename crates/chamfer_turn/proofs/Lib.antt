pub mod Cells
pub mod Moves
pub mod Taking
