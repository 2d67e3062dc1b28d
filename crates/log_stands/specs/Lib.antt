pub mod StandsWithLog
pub mod Laws
