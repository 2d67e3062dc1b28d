pub mod FirstFault
pub mod InLeaf
