pub mod Counting
pub mod LineByLine
pub mod Spans
pub mod Sensible
pub mod Judging
pub mod Stores
pub mod Writing
pub mod Largest
