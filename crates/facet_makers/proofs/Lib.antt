pub mod Filled
pub mod Fresh
pub mod Items
pub mod KindTexts
pub mod Suits
pub mod Tuples
pub mod Variants
