pub mod Scene
pub mod Admissible
pub mod Images
