pub mod CutTexts
pub mod Each
mod FieldLists
pub mod FieldWords
pub mod Splits
pub mod VariantBytes
pub mod VariantWords
