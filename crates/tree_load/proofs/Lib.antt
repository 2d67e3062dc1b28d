pub mod Checked
pub mod Tables
pub mod Loading
pub mod Taken
pub mod Whole
