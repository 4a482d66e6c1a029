mod Agree
pub mod Bounded
mod CountedTwice
mod Entries
mod Found
pub mod Front
mod FrontTables
mod Fronts
mod Inside
mod KeysOfShape
pub mod KeysOrdered
mod KindsFit
mod LargeShapes
pub mod MembersOffered
mod NameLengths
mod NoneMet
mod PartLayouts
pub mod PartsAligned
pub mod PartsApart
pub mod PartsInside
pub mod PartsKnown
mod PowersOfTwo
pub mod Ranks
mod Readings
mod SameMeets
pub mod Sealed
pub mod VariantsDistinct
