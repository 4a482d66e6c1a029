pub mod Laid
pub mod Place
pub mod Reading
pub mod Replaced
pub mod Rows
pub mod Scalars
pub mod Seen
