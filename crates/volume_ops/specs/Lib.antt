pub mod Done
pub mod Needs
pub mod Indexes
