pub mod InUse
pub mod Keeps
pub mod GoesOn
