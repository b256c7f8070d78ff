-- The half-grid edge by edge (document 01, item 7).
use Rattle.std.specs.Prelude.{Bool, not, cond}
use Rattle.geom.specs.declared.Point.{Point}
use Rattle.geom.specs.Range.{in_range}
use Rattle.rules.specs.Replies.{doubled}
use Rattle.rings.specs.declared.crossings.Crossing.{Crossing}
use Rattle.rings.specs.declared.crossings.Crossing.TheVariants.{Nothing, Up, Down, On}

-- twice a corner in range, and any other as it is
abbrev pub near_doubled : Point → Point
near_doubled corner = cond (in_range corner) (doubled corner) corner

-- a corner on the half-grid, or on the grid
abbrev pub corner_on : Bool → Point → Point
corner_on half corner = cond half (near_doubled corner) corner

abbrev pub crossed_once : Bool → Crossing → Bool
crossed_once odd Nothing = odd
crossed_once odd Up = not odd
crossed_once odd Down = not odd
crossed_once odd On = odd
