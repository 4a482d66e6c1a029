pub mod BlockBodies
pub mod ClearedRanges
pub mod HeldValues
pub mod KeptPlaces
pub mod LeavesTexts
pub mod PartsInOrder
pub mod PartsLeft
pub mod Readables
