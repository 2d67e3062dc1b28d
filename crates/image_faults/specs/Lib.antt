pub mod Said
pub mod Faulty
pub mod Lists
pub mod Decisions
pub mod Ways
pub mod Decided
pub mod Lowest
pub mod Counts
