pub mod Counting
pub mod Committed
