pub mod Names
pub mod Lines
pub mod Walk
pub mod Listing
pub mod View
pub mod Foreign
