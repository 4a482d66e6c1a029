mod PartLookups
mod PartTotals
pub mod ReadableParts
pub mod SeenKinds
