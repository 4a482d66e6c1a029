pub mod Sequences
pub mod Elements
