pub mod Generic
pub mod Makers
pub mod Offering
pub mod Operations
pub mod Slices
pub mod SuitsKind
pub mod Types
