pub mod Numbers
pub mod Entries
pub mod Prepared
pub mod Model
pub mod Steps
pub mod Demand
pub mod Coded
