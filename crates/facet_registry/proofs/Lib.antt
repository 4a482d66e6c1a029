mod Drafts
mod Preludes
mod Scalars
pub mod SealedLeaves
pub mod SealedReadings
pub mod WellFormedPrelude
