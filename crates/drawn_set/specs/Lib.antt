pub mod Names
pub mod Slots
pub mod Search
pub mod Drawn
pub mod Stranded
