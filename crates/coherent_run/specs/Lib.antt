pub mod Greatest
pub mod Checked
