pub mod Value
pub mod Clear
