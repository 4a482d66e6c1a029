pub mod HashProxies
pub mod OneLines
mod ParsedKinds
pub mod Parsing
pub mod TextsInParts
pub mod Utf8Texts
