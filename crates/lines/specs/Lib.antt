pub mod Words
pub mod Records
pub mod Plans
pub mod Steps
pub mod Stored
