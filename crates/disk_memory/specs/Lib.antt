pub mod Record
pub mod RecordLaws
pub mod MemoryDisk
pub mod NeverFails
