pub mod Below
pub mod Rising
pub mod Bodies
pub mod Rows
pub mod Names
