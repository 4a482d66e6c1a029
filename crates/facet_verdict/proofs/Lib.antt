mod Causing
mod Counts
mod Decisions
pub mod Deciding
mod Discriminants
mod Heights
pub mod Naming
mod Ways
