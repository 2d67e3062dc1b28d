pub mod Told
mod Bytes
mod Walking
mod Reaches
pub mod Trees
