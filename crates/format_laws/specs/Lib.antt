pub mod Fields
pub mod Checks
pub mod Superblock
pub mod Items
pub mod Places
pub mod Blocks
pub mod Tables
pub mod Sealed
