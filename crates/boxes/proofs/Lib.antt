pub mod Rings
pub mod Unions
pub mod Leasts
pub mod PlanEdges
pub mod OneRing
mod Caught
