pub mod Promises
pub mod Surviving
pub mod SyncPromises
