pub mod Library
pub mod Cases
pub mod Corners
pub mod Flags
pub mod RaySigns
pub mod RayEdges
pub mod FourRays
pub mod Indexed
pub mod Nodes
pub mod RayChoice
pub mod SmallNumbers
pub mod Tables
pub mod Verdicts
mod Worked
