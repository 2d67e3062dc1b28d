pub mod LogItems
pub mod LogRules
pub mod Laws
pub mod Planted
