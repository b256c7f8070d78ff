pub mod Readings
pub mod Writings
pub mod Numbers
