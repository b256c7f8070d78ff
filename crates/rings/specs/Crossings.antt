-- How an edge counts for a point, by item 3's rule (document 01).
use Rattle.std.specs.Prelude.{Bool, true, false, cond, List, Option, Some, None, ℤ, pos, negsuc, ◌+ℤ◌}
use Rattle.integers.specs.declared.Sign.{Sign}
use Rattle.integers.specs.declared.Sign.TheVariants.{Negative, Zero, Positive}
use Rattle.integers.specs.Signs.{sign_of}
use Rattle.geom.specs.declared.Point.{Point}
use Rattle.predicates.specs.Turn.{on_segment}
use Rattle.rules.specs.declared.Location.{Location}
use Rattle.rules.specs.declared.Location.TheVariants.{Outside, Inside, OnBoundary}
use Rattle.rules.specs.Edges.{edges_of, edge_winding, winding, on_edge}
use Rattle.rules.specs.Replies.{is_nonzero}
use Rattle.rings.specs.declared.crossings.Crossing.{Crossing}
use Rattle.rings.specs.declared.crossings.Crossing.TheVariants.{Nothing, Up, Down, On}

-- the sign of what an edge adds
abbrev pub signed : Sign → Crossing
signed Negative = Down
signed Zero = Nothing
signed Positive = Up

-- on a closed edge is on the boundary; otherwise what the edge adds
unfoldable pub crossing_of : Point → Point → Point → Crossing
crossing_of a b p = cond (on_segment a b p) On (signed (sign_of (edge_winding a b p)))

abbrev pub is_on : Crossing → Bool
is_on Nothing = false
is_on Up = false
is_on Down = false
is_on On = true

abbrev pub weight_of : Crossing → ℤ
weight_of Nothing = pos 0
weight_of Up = pos 1
weight_of Down = negsuc 0
weight_of On = pos 0

-- an edge that rises past the point's height, and one that falls, by the turn
abbrev pub upward_of : Sign → Crossing
upward_of Negative = Nothing
upward_of Zero = On
upward_of Positive = Up

abbrev pub downward_of : Sign → Crossing
downward_of Negative = Down
downward_of Zero = On
downward_of Positive = Nothing

-- the winding number with one more edge, and none on it
abbrev pub with_edge : ℤ → Crossing → Option ℤ
with_edge winding crossing = cond (is_on crossing) None (Some (winding +ℤ weight_of crossing))

-- item 3: none on an edge, and otherwise the winding number
unfoldable pub ring_winding : List Point → Point → Option ℤ
ring_winding ring p = cond (on_edge (edges_of ring) p) None (Some (winding ring p))

-- the place that it tells
abbrev pub place_by : Option ℤ → Location
place_by None = OnBoundary
place_by (Some winding) = cond (is_nonzero winding) Inside Outside
