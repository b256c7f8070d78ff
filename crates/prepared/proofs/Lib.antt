pub mod Lookings
pub mod Listing
pub mod Agreement
pub mod Imports
pub mod Caught
