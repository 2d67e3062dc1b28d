pub mod Weights
pub mod Rooms
pub mod Items
mod Steps
