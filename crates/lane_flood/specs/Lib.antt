pub mod Around
pub mod Labelling
