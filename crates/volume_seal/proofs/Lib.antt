mod Parts
mod DataParts
mod Counted
mod WithData
pub mod States
mod Free
pub mod Whole
mod Rooted
pub mod Standing
mod Super
