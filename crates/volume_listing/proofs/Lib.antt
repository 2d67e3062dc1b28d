pub mod Places
pub mod Ways
pub mod Shown
pub mod Volumes
