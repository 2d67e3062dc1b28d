pub mod Inode
pub mod Names
