pub mod Blocks
pub mod NewSequences
pub mod Variants
