pub mod Mounting
pub mod Checks
