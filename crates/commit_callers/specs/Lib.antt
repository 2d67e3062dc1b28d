pub mod Order
pub mod Wants
pub mod Covered
pub mod GoWith
