pub mod Ranges
pub mod Gone
pub mod Listing
pub mod Indexes
pub mod Entries
