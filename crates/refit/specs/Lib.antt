pub mod Paths
pub mod Refits
