pub mod Tree
pub mod Subvolume
pub mod Roots
pub mod Stands
pub mod Bare
pub mod Worked
