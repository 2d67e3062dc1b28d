pub mod Edge
pub mod Memory
pub mod Printed
pub mod Reading
