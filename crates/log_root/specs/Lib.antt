pub mod Entries
pub mod Built
