pub mod Carried
mod Counting
pub mod Entries
mod Frontier
mod HighNodes
mod Listed
mod Spans
mod Tables
mod Tallies
mod Trails
mod WayBack
mod Ways
mod Within
mod Work
