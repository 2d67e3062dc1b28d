pub mod Kinds
pub mod Words
pub mod Paths
pub mod Requests
pub mod Script
pub mod Parts
pub mod Grammar
