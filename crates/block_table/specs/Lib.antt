pub mod Slot
pub mod SlotLends
pub mod Blocks
pub mod Table
pub mod TableLends
pub mod TreeIn
