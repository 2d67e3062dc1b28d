pub mod Shape
pub mod Between
pub mod Path
pub mod Spot
pub mod Part
