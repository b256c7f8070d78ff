pub mod LineSearch
pub mod Answers
pub mod Held
mod Worked
mod Caught
