pub mod Puts
pub mod Extents
pub mod Marks
pub mod Scanned
