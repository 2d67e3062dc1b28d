pub mod Counts
pub mod Free
pub mod Kept
pub mod Laws
