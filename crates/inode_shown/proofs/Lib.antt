pub mod Putting
mod Between
mod Said
mod Bytes
mod Targets
mod Shown
