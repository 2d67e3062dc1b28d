pub mod Points
pub mod Made
pub mod Kept
