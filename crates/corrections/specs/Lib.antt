pub mod Answering
pub mod TakingBack
pub mod Records
