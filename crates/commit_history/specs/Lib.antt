pub mod State
pub mod Effects
pub mod Legal
pub mod Calls
pub mod Survival
