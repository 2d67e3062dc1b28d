pub mod WordLemmas
pub mod UuidLemmas
pub mod CommandLemmas
pub mod AnswerLemmas
pub mod Mounting
pub mod Beginning
pub mod Ending
pub mod RunLemmas
pub mod Crashes
pub mod FewLines
mod MadeLemmas
mod Settled
mod FaultTexts
