pub mod EdgesAlong
mod Passing
pub mod Distances
pub mod Pruned
pub mod Whole
pub mod PlanRings
pub mod PlanAlong
mod Worked
