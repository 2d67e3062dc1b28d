mod Doing
mod Among
mod Placed
mod Asking
pub mod Required
pub mod Told
