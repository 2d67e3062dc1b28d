pub mod Added
pub mod Linked
