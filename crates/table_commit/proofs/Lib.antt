pub mod Settled
pub mod Addresses
pub mod Gone
mod Below
