pub mod Boring
