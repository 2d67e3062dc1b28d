pub mod Rise
pub mod Under
pub mod Bodies
pub mod Law
pub mod Local
pub mod Ways
pub mod Cuts
pub mod Children
pub mod Found
mod Spots
mod Looked
mod Walked
mod Parts
pub mod Times
