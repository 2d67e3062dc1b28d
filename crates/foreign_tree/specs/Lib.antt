pub mod Tree
pub mod Reached
pub mod Answers
