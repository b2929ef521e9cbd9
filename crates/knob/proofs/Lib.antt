pub mod Range
pub mod Scaling
pub mod Opening
