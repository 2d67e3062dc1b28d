pub mod Log
pub mod Kept
pub mod Sought
pub mod Wanted
