pub mod View
pub mod Building
pub mod Indexes
pub mod Applying
