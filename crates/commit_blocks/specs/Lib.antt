pub mod Keeps
pub mod Steps
pub mod Mounting
pub mod Operating
