pub mod Opened
pub mod View
pub mod Roots
