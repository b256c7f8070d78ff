pub mod Lines
pub mod Readings
pub mod Numbers
