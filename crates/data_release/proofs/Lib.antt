pub mod Left
pub mod Ranges
pub mod Clearing
