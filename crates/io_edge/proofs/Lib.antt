pub mod Given
pub mod PrintedBytes
pub mod Sinks
pub mod Texts
