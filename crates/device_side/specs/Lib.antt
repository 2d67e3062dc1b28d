pub mod Device
pub mod Written
pub mod Finish
