mod Filled
pub mod Fresh
mod Leaves
