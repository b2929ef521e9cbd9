pub mod Stretches
