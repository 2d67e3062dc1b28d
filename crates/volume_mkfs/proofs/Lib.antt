pub mod New
pub mod Fresh
pub mod Room
pub mod Written
