mod Bare
mod Changed
mod Choosing
mod Each
mod Kept
mod Unmarking
mod Views
pub mod Copied
