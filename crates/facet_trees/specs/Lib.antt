pub mod Answered
pub mod Ascending
pub mod Enums
pub mod Equal
pub mod Fits
pub mod Order
pub mod Structure
pub mod Value
