pub mod Along
pub mod Doubles
pub mod Numbered
pub mod Reach
