pub mod Extremes
pub mod Halves
pub mod Signs
pub mod Words
