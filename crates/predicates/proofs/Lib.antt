pub mod TurnSizes
mod Caught
