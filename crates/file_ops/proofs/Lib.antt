pub mod Placed
pub mod Answered
pub mod Done
pub mod Rows
pub mod FileRows
pub mod Writes
pub mod Judged
