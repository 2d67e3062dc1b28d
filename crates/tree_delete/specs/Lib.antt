pub mod Ahead
pub mod Balance
pub mod Seals
pub mod Rows
pub mod Steps
