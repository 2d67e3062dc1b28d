mod Changes
mod Few
mod Gone
mod Steps
