pub mod Steps
pub mod Items
pub mod Bytes
pub mod Reached
pub mod Committing
pub mod Finding
pub mod Leaves
