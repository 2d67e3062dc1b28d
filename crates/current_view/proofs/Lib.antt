pub mod Between
mod Results
pub mod Steps
mod Once
mod Indexed
pub mod Refs
mod Hashed
