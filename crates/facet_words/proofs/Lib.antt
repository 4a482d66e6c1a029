pub mod CapsLetters
pub mod Cuts
pub mod FixedTables
pub mod Integers
pub mod Numbers
mod OptionOrder
pub mod OptionWords
pub mod Paths
pub mod WordBytes
