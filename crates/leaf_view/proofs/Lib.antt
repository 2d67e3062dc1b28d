pub mod Below
pub mod LeafLaws
pub mod NodeLaws
pub mod Rising
pub mod Views
