pub mod KeyOrder
pub mod Search
pub mod Listed
