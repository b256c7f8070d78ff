pub mod Named
pub mod Walks
pub mod Builds
pub mod Leaves
