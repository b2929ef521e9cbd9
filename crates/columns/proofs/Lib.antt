pub mod Column
pub mod Rows
pub mod Lowering
pub mod Raising
pub mod Bands
pub mod Testing
