pub mod Words
pub mod Queries
