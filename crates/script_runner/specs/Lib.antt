pub mod Words
pub mod Faults
pub mod Commands
pub mod Mkfs
pub mod Run
