pub mod Advance
pub mod Alike
