mod Begun
mod BuiltByItems
