pub mod AttributeShares
pub mod NewRecord
pub mod Reading
pub mod RecordView
pub mod SizedBlocks
