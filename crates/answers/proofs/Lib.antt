mod Lines
mod LookUps
mod Replying
mod Searching
mod Bounds
mod Judged
pub mod Outcomes
mod Worked
mod Caught
