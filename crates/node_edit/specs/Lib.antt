pub mod Editor
pub mod Pointers
