pub mod Answer
pub mod Super
pub mod Chunks
pub mod Block
pub mod Items
