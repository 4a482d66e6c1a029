pub mod FullNames
pub mod NameChildren
mod NamePieces
pub mod SameNames
