pub mod Steps
pub mod Digits
pub mod Completions
pub mod Runs
pub mod Means
pub mod Texts
pub mod Same
pub mod Tables
pub mod Again
pub mod Tokens
mod Worked
