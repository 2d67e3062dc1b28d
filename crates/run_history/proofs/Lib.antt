pub mod Room
pub mod Behind
