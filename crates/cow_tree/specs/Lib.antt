pub mod Change
pub mod Pieces
pub mod Spread
pub mod Below
pub mod Whole
