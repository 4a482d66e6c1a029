pub mod Elements
