pub mod Editing
pub mod Edits
pub mod Parts
