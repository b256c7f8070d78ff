pub mod Rings
pub mod Boxes
