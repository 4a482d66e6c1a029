pub mod Scalar
pub mod ScalarLaws
pub mod ScalarModel
pub mod ScalarTexts
