pub mod Volumes
pub mod Behind
pub mod Disks
pub mod Sounds
pub mod Events
pub mod FoundBy
