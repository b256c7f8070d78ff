-- Edges and the winding number (document 01, items 1 and 3).
use Rattle.std.specs.Prelude.{Bool, cond, ◌&&◌, List, [], ◌∷◌, ◌++◌, ℤ, pos, negsuc}
use Rattle.std.specs.Int.Signed.{le_z, lt_z}
use Rattle.integers.specs.Signs.{sign_of, is_negative, is_positive}
use Rattle.geom.specs.declared.Point.{Point}
use Rattle.predicates.specs.Turn.{orientation, on_segment}
use Rattle.rules.specs.Lists.{any_of, sum_of}

-- where an edge starts and where it ends
abbrev pub Edge : Type 0
Edge = Point × Point

-- item 1: corner i to corner i + 1, the last to the first
unfoldable pub edges_from : Point → Point → List Point → List Edge
edges_from first corner [] = (corner, first) ∷ []
edges_from first corner (next ∷ rest) = (corner, next) ∷ edges_from first next rest

unfoldable pub edges_of : List Point → List Edge
unfolding edges_from
edges_of [] = []
edges_of (first ∷ rest) = edges_from first first rest

-- all edges of all rings, in plan order
unfoldable pub all_edges : List (List Point) → List Edge
all_edges [] = []
all_edges (ring ∷ rings) = edges_of ring ++ all_edges rings

-- item 3: +1 for an edge with a.y ≤ p.y < b.y and positive turn, −1 for b.y ≤ p.y < a.y and negative turn
unfoldable pub edge_winding : Point → Point → Point → ℤ
edge_winding a b p =
    cond (le_z a.y p.y && lt_z p.y b.y && is_positive (sign_of (orientation a b p))) (pos 1)
    (cond (le_z b.y p.y && lt_z p.y a.y && is_negative (sign_of (orientation a b p))) (negsuc 0) (pos 0))

-- item 3: the winding number of a ring round a point
unfoldable pub winding : List Point → Point → ℤ
winding ring p = sum_of (λ e. edge_winding e.0 e.1 p) (edges_of ring)

-- item 3: a point on a closed edge is on the boundary
unfoldable pub on_edge : List Edge → Point → Bool
on_edge edges p = any_of (λ e. on_segment e.0 e.1 p) edges
