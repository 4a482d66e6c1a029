pub mod EmptyRecords
pub mod PartialRecord
pub mod TypeOps
pub mod VTableErased
