pub mod Records
pub mod Since
pub mod States
