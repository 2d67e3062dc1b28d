mod Views
mod Steps
mod Fitting
mod Coherence
mod Entries
