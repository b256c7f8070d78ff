pub mod LookUps
pub mod Replaying
pub mod Starting
pub mod Ending
pub mod Caught
