pub mod Putting
pub mod Attributes
pub mod Words
