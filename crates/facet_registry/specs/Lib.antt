pub mod Offsets
pub mod Prelude
pub mod Registry
pub mod WellFormed
