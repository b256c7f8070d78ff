pub mod Differences
pub mod Order
pub mod Tests
pub mod Polynomials
pub mod Linear
pub mod Signs
pub mod Sizes
pub mod NoWrap
pub mod Bits
pub mod Halves
pub mod Words
pub mod Borrows
mod Caught
