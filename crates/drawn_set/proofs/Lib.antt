pub mod Given
pub mod Crowded
pub mod Sets
pub mod Parents
pub mod Searches
pub mod Following
pub mod Least
pub mod Stranding
