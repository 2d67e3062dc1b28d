pub mod CrcLemmas
pub mod CrcTables
pub mod NameLemmas
pub mod AddressLemmas
pub mod Members
pub mod ToldLemmas
