pub mod File
pub mod Registers
