pub mod Behind
pub mod Wanting
pub mod Turns
pub mod Leaving
