pub mod Listing
pub mod Put
pub mod Apart
pub mod Orders
