pub mod Replies
pub mod Exports
pub mod WellKnown
pub mod Sessions
