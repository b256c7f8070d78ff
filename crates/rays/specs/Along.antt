-- How an edge counts for a point along each of the four rays (document 01, items 3 and 6).
use Rattle.std.specs.Prelude.{Bool, true, false, cond}
use Rattle.std.specs.Int.Signed.{le_z, lt_z}
use Rattle.integers.specs.declared.Sign.{Sign}
use Rattle.integers.specs.declared.Sign.TheVariants.{Negative, Positive}
use Rattle.integers.specs.Signs.{sign_of}
use Rattle.geom.specs.declared.Point.{Point}
use Rattle.predicates.specs.Turn.{on_segment}
use Rattle.rules.specs.declared.Location.{Location}
use Rattle.rules.specs.declared.Location.TheVariants.{Outside, Inside, OnBoundary}
use Rattle.rules.specs.declared.Ray.{Ray}
use Rattle.rules.specs.declared.Ray.TheVariants.{Right, Left, Up, Down}
use Rattle.rules.specs.Rays.{winding_on}
use Rattle.rings.specs.declared.crossings.Crossing.{Crossing}
use Rattle.rings.specs.declared.crossings.Crossing.TheVariants.{Nothing, On}
use Rattle.rings.specs.declared.crossings.Crossing as Crossing
use Rattle.rings.specs.Crossings.{signed}

-- on a closed edge is on the boundary; otherwise what the edge adds by the winding rule on the ray
unfoldable pub crossing_along : Ray → Point → Point → Point → Crossing
crossing_along ray a b p = cond (on_segment a b p) On (signed (sign_of (winding_on ray a b p)))

-- a corner no higher than the point in coordinates turned so that the ray points right, told without turning them
abbrev pub no_higher : Ray → Point → Point → Bool
no_higher Right corner p = le_z corner.y p.y
no_higher Left corner p = le_z p.y corner.y
no_higher Up corner p = le_z p.x corner.x
no_higher Down corner p = le_z corner.x p.x

-- a point farther along the ray than another
abbrev pub is_beyond : Ray → Point → Point → Bool
is_beyond Right a b = lt_z b.x a.x
is_beyond Left a b = lt_z a.x b.x
is_beyond Up a b = lt_z b.y a.y
is_beyond Down a b = lt_z a.y b.y

-- a turn to the left, or to the right
abbrev pub left_if : Bool → Sign
left_if true = Positive
left_if false = Negative

-- an edge that gets +1 or −1
abbrev pub is_crossed : Crossing → Bool
is_crossed Nothing = false
is_crossed Crossing.TheVariants.Up = true
is_crossed Crossing.TheVariants.Down = true
is_crossed On = false

-- items 3 and 7: on any edge is boundary; otherwise what the edges add up to tells
abbrev pub place_by : Bool → Bool → Location
place_by on inside = cond on OnBoundary (cond inside Inside Outside)
