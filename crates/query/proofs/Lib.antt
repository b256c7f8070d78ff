pub mod Caught
pub mod Fits
pub mod LookUps
