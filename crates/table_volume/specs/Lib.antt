pub mod Gives
pub mod Edited
pub mod TreeEdit
pub mod Running
pub mod Keyed
pub mod Operated
