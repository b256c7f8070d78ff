pub mod Rows
pub mod Shapes
