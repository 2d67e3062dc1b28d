pub mod Things
pub mod Lengths
pub mod Distinct
pub mod Had
pub mod Counted
