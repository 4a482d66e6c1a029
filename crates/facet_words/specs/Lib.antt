pub mod Caps
pub mod FixedWords
pub mod Integers
pub mod Options
pub mod Paths
pub mod Words
