-- Worked examples of what no case of P1 to P12 holds: the ends of item 3's rule, at a point level with two corners, which ray counts
-- which edge, and which ray item 6 takes. Assumes nothing.
use mathlib.Core.Path.{◌≡◌, refl}
use mathlib.Core.List.{List, [], ◌∷◌, map, reverse}
use lib.IntN.{ℤ, pos, negsuc}
use Rattle.geom.specs.declared.Point.{Point}
use Rattle.geom.specs.Boxes.{empty_rect}
use Rattle.predicates.specs.Turn.{orientation, on_segment}
use Rattle.rules.specs.declared.Location.TheVariants.{Inside}
use Rattle.rules.specs.declared.Ray.{Ray}
use Rattle.rules.specs.declared.Ray.TheVariants.{Right, Left, Up, Down}
use Rattle.rules.specs.Edges.{edges_from, edges_of, all_edges, edge_winding, winding, on_edge}
use Rattle.rules.specs.Lists.{any_of, count_of, sum_of}
use Rattle.rules.specs.Rays.{winding_on, ray_of}
use Rattle.rules.specs.Replies.{ring_reply, doubled_edges, half_reply}

abbrev at : ℤ → ℤ → Point
at x y = record { x = x; y = y }

-- (0, 0) (5, −5) (10, 0) (5, 5)
abbrev diamond : List Point
diamond = at (pos 0) (pos 0) ∷ at (pos 5) (negsuc 4) ∷ at (pos 10) (pos 0) ∷ at (pos 5) (pos 5) ∷ []

-- what a list of corners counts on each ray
abbrev on_each : List Point → Point → List ℤ
on_each ring p = map (λ ray. sum_of (λ e. winding_on ray e.0 e.1 p) (edges_of ring)) (Right ∷ Left ∷ Up ∷ Down ∷ [])

-- each ray from (5, 0) passes through a corner, and counts 1; the other way round it counts −1
counter_clockwise : on_each diamond (at (pos 5) (pos 0)) ≡ pos 1 ∷ pos 1 ∷ pos 1 ∷ pos 1 ∷ []
unfolding orientation edges_from edges_of edge_winding sum_of winding_on
counter_clockwise = refl

clockwise : on_each (reverse diamond) (at (pos 5) (pos 0)) ≡ negsuc 0 ∷ negsuc 0 ∷ negsuc 0 ∷ negsuc 0 ∷ []
unfolding orientation edges_from edges_of edge_winding sum_of winding_on
clockwise = refl

-- a ray from (0, 0) that touches a corner of a triangle and goes by counts nothing: a triangle below the ray's line, and one above it
touched : on_each (at (pos 1) (negsuc 0) ∷ at (pos 3) (negsuc 0) ∷ at (pos 2) (pos 0) ∷ []) (at (pos 0) (pos 0)) ≡ pos 0 ∷ pos 0 ∷ pos 0 ∷ pos 0 ∷ []
unfolding orientation edges_from edges_of edge_winding sum_of winding_on
touched = refl

touched_from_above : on_each (at (pos 2) (pos 0) ∷ at (pos 3) (pos 1) ∷ at (pos 1) (pos 1) ∷ []) (at (pos 0) (pos 0)) ≡ pos 0 ∷ pos 0 ∷ pos 0 ∷ pos 0 ∷ []
unfolding orientation edges_from edges_of edge_winding sum_of winding_on
touched_from_above = refl

-- an edge right of (0, 0), left of it, above it and below it, each counter-clockwise round it: one ray alone counts it
abbrev counted_on : ℤ → ℤ → ℤ → ℤ → List ℤ
counted_on ax ay bx by = map (λ ray. winding_on ray (at ax ay) (at bx by) (at (pos 0) (pos 0))) (Right ∷ Left ∷ Up ∷ Down ∷ [])

only_one : counted_on (pos 5) (negsuc 0) (pos 5) (pos 1) ∷ counted_on (negsuc 4) (pos 1) (negsuc 4) (negsuc 0) ∷ counted_on (pos 1) (pos 5) (negsuc 0) (pos 5) ∷ counted_on (negsuc 0) (negsuc 4) (pos 1) (negsuc 4) ∷ []
    ≡ (pos 1 ∷ pos 0 ∷ pos 0 ∷ pos 0 ∷ []) ∷ (pos 0 ∷ pos 1 ∷ pos 0 ∷ pos 0 ∷ []) ∷ (pos 0 ∷ pos 0 ∷ pos 1 ∷ pos 0 ∷ []) ∷ (pos 0 ∷ pos 0 ∷ pos 0 ∷ pos 1 ∷ []) ∷ []
unfolding orientation edge_winding winding_on
only_one = refl

on_the_grid : ring_reply diamond (at (pos 5) (pos 0)) ≡ Inside
unfolding orientation on_segment edges_from edges_of edge_winding winding on_edge any_of sum_of ring_reply
on_the_grid = refl

on_the_half_grid : half_reply (diamond ∷ []) (at (pos 10) (pos 0)) ≡ Inside
unfolding orientation on_segment edges_from edges_of all_edges edge_winding on_edge any_of count_of doubled_edges half_reply
on_the_half_grid = refl

-- ---- item 6's choice over the box (0, 0) to (10, 20), with edges: each side in turn, each tie, and a point beyond a side
abbrev chosen : ℤ → ℤ → Ray
chosen x y = ray_of 1 (record { min = at (pos 0) (pos 0); max = at (pos 10) (pos 20) }) (at x y)

each_side : chosen (pos 9) (pos 10) ∷ chosen (pos 1) (pos 10) ∷ chosen (pos 5) (pos 18) ∷ chosen (pos 5) (pos 2) ∷ [] ≡ Right ∷ Left ∷ Up ∷ Down ∷ []
each_side = refl

each_tie : chosen (pos 5) (pos 10) ∷ chosen (pos 8) (pos 18) ∷ chosen (pos 8) (pos 2) ∷ chosen (pos 2) (pos 18) ∷ chosen (pos 2) (pos 2) ∷ [] ≡ Right ∷ Right ∷ Right ∷ Left ∷ Left ∷ []
each_tie = refl

-- at the middle of a wide box up and down tie
high_and_low : ray_of 1 (record { min = at (pos 0) (pos 0); max = at (pos 20) (pos 10) }) (at (pos 10) (pos 5)) ≡ Up
high_and_low = refl

beyond : chosen (pos 15) (pos 10) ∷ chosen (negsuc 4) (pos 10) ∷ chosen (pos 5) (pos 25) ∷ chosen (pos 5) (negsuc 4) ∷ [] ≡ Right ∷ Left ∷ Up ∷ Down ∷ []
beyond = refl

-- no edges: right, though the left side of `EMPTY_RECT` is nearer to (−5, 0)
no_edges : ray_of 0 empty_rect (at (negsuc 4) (pos 0)) ≡ Right
no_edges = refl
