pub mod Standing
pub mod Orderly
pub mod Steps
