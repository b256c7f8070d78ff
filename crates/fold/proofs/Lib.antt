-- `Quiet` has what rings that the point is outside of leave as it is, `Foldings` the turns of a fold, `AsIf` what a fold comes to at
-- any ring, `PolygonEnds` the polygon table of a sound plan, `PlanRegions` the reply of a plan by the replies of its rings.
pub mod Quiet
pub mod Foldings
pub mod AsIf
pub mod PolygonEnds
pub mod PlanRegions
mod Caught
