pub mod Files
pub mod Limits
pub mod Orders
pub mod Tables
