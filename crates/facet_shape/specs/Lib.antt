pub mod Capability
pub mod Def
pub mod ShapeBuilder
pub mod Ty
pub mod WithoutSpare
