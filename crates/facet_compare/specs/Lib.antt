pub mod Hash
pub mod HashedPlaces
pub mod Leaves
pub mod Walks
