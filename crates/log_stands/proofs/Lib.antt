pub mod Local
pub mod One
pub mod Sound
