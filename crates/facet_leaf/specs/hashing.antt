pub mod HashProxy
pub mod HashWrite
pub mod Recorder
