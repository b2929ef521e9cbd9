pub mod Lines
pub mod After
