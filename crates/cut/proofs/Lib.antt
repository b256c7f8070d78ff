pub mod Shuffles
pub mod Partings
pub mod Selectings
pub mod Packing
mod Caught
