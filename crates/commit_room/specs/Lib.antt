pub mod Items
pub mod Ledger
pub mod Room
