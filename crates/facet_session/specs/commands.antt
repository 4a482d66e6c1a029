pub mod Default
pub mod Put
pub mod Seal
pub mod Shape
