mod Ends
pub mod ReadStarts
mod TurnLaws
