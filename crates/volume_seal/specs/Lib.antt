pub mod Roots
pub mod Sealed
pub mod Superblock
