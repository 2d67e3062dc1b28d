pub mod Listing
pub mod Order
pub mod Found
pub mod Parts
