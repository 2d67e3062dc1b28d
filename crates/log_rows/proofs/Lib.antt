pub mod StepLogs
pub mod Computing
pub mod RowLemmas
