pub mod Readings
pub mod Namings
pub mod Sessions
pub mod RoundTrip
mod Caught
