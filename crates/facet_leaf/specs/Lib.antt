pub mod LeafLaws
pub mod LeafModel
pub mod OneLine
pub mod hashing
pub mod scalars
