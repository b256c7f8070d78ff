pub mod Shuffle
pub mod Selection
pub mod Keys
