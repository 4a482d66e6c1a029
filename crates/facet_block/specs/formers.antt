pub mod list_vec
pub mod split
