pub mod Counting
pub mod OwnItems
mod Few
mod Gone
