pub mod Stages
pub mod Adding
pub mod Answered
mod Below
mod Exchanged
pub mod Parts
pub mod Bounds
pub mod Linked
pub mod Made
pub mod Totals
pub mod Dropping
pub mod Removed
pub mod Moved
pub mod Judged
