pub mod Crossings
pub mod Half
pub mod Parts
pub mod Places
