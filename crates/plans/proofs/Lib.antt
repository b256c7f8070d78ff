pub mod Sums
pub mod Searches
pub mod Ranges
mod Caught
