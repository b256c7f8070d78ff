pub mod Regions
pub mod Folds
