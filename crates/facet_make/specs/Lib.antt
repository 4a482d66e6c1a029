pub mod Made
pub mod Default
pub mod Clone
pub mod Exits
pub mod Initial
pub mod Walk
pub mod Cloning
