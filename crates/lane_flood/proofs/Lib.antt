pub mod Around
pub mod Marks
pub mod Flowing
pub mod Touching
