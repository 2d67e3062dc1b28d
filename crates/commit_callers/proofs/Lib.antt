pub mod Order
pub mod Quiet
pub mod Known
pub mod Behind
