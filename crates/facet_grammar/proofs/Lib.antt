mod Apart
mod CommandTexts
mod Declarations
mod Inverse
mod Keywords
mod OneToken
mod Pieces
mod ReadingLoops
pub mod Spellings
mod Table
mod Words
