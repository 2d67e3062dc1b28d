pub mod Faults
pub mod Trees
pub mod Roots
pub mod Checks
pub mod Mounted
