pub mod Causes
pub mod ListStreams
pub mod Stream
