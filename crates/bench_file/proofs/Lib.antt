pub mod Peaks
pub mod Answering
