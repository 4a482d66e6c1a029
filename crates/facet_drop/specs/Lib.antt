pub mod Cleared
pub mod InlineParts
pub mod LeavesText
pub mod Logged
pub mod Makeup
