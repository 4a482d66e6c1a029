pub mod Described
pub mod Options
pub mod Outcome
pub mod Parts
