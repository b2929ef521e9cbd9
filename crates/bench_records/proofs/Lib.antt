pub mod FileRecords
pub mod Counting
pub mod Boring
