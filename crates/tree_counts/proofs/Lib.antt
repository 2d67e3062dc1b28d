pub mod Lists
pub mod Wanted
pub mod Asked
pub mod Bare
pub mod Slots
pub mod Volumes
