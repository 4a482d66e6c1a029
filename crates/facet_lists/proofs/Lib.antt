pub mod ElementLists
pub mod ListChanges
pub mod ChangedLists
pub mod FilledBlocks
