pub mod Slots
pub mod Tallies
pub mod Collections
pub mod Regions
pub mod Halves
pub mod Lent
