pub mod Walking
pub mod Lanes
