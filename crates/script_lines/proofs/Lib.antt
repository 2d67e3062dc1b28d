pub mod Allowed
pub mod Happening
pub mod Running
pub mod Lacking
