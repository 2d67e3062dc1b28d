pub mod Joined
pub mod Steps
pub mod Told
pub mod Moments
pub mod Writes
pub mod Led
pub mod Finishing
