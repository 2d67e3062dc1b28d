pub mod EditLaws
pub mod Among
pub mod StepLaws
pub mod Reading
pub mod OtherTrees
pub mod Counting
pub mod Places
pub mod Sealed
