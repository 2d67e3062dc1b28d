pub mod Loaded
pub mod Below
