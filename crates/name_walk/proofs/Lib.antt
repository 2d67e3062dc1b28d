pub mod Counting
pub mod Finding
pub mod InSlots
pub mod ItemLens
pub mod Reading
pub mod Ways
