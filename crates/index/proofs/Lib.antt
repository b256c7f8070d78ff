pub mod Counts
pub mod Tables
pub mod Places
pub mod Growth
pub mod Shaping
pub mod Reordered
pub mod Ordering
pub mod Readings
pub mod Building
pub mod Once
pub mod Soundness
mod Caught
