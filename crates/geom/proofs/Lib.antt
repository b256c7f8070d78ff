pub mod Range
pub mod Boxes
mod Caught
