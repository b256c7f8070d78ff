pub mod Answers
pub mod Tests
pub mod Rows
pub mod Refitting
