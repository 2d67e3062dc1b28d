pub mod Seen
pub mod Recorded
pub mod GoesOn
