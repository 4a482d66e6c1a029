pub mod PartReferences
mod Rounding
pub mod SameCauses
pub mod SameItems
