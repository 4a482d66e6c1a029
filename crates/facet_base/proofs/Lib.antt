mod BitSets
mod FlagNames
pub mod Hashes
pub mod Lists
pub mod Numerals
