pub mod Rooms
pub mod Numbers
pub mod Filling
pub mod Holding
pub mod Indexing
pub mod Readiness
pub mod Caught
