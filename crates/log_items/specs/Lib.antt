pub mod Copied
pub mod Forgotten
pub mod Inode
pub mod Keys
pub mod Names
pub mod Writing
pub mod Written
