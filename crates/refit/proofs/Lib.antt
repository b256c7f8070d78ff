pub mod Paths
pub mod Stopping
pub mod Fitting
pub mod Moving
pub mod Caught
