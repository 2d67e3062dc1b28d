pub mod View
pub mod Building
pub mod Ends
pub mod Lists
pub mod Moves
pub mod Editing
