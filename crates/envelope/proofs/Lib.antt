pub mod Turns
pub mod Taking
pub mod Stores
pub mod Spreading
