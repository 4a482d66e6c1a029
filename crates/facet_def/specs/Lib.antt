pub mod Def
pub mod ListDef
pub mod PointerDef
