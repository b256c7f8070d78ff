pub mod EdgeCounts
pub mod Halving
pub mod Parts
pub mod Rounds
pub mod Tests
mod Caught
