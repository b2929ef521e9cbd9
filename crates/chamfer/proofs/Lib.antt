pub mod Order
pub mod Settling
pub mod Pinned
pub mod Bounds
pub mod Nearer
pub mod Bringing
pub mod Beginning
pub mod Ending
