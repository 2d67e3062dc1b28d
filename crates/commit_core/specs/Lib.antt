pub mod Coming
pub mod Holding
pub mod Sealed
pub mod Few
