pub mod Blocks
pub mod Gaps
pub mod KeyPlaces
