pub mod Imagined
pub mod Happened
pub mod Standing
pub mod Ended
pub mod Retrying
pub mod Begun
pub mod Finishing
pub mod NoSpace
