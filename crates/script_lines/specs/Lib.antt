pub mod Lines
pub mod Happened
