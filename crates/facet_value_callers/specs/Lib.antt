pub mod ShapesOf
