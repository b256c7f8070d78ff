pub mod Cuts
pub mod Alignment
pub mod Holes
pub mod ParitySteps
pub mod Progress
pub mod Steps
