pub mod Drawn
pub mod Lengths
