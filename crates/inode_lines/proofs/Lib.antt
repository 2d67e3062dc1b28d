pub mod Kinded
pub mod Own
pub mod Fellows
