pub mod Readings
pub mod Writings
pub mod WrittenBack
pub mod RoundTrip
pub mod Few
mod Caught
