pub mod Joining
pub mod Again
pub mod Split
pub mod Finished
