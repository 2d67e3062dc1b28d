pub mod Front
pub mod Changed
pub mod Inodes
pub mod Files
