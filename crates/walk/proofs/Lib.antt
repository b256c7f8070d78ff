pub mod EdgeEnds
pub mod Missing
pub mod Standing
pub mod Turning
pub mod Sums
pub mod Walked
pub mod Seeking
pub mod Caught
