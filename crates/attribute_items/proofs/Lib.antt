pub mod Named
pub mod Hashed
pub mod Spelled
pub mod Items
pub mod Changed
pub mod Making
pub mod Short
