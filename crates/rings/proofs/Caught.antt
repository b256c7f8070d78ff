-- Wrong programs that the contracts rule out, whatever their code is: what a promise gives where such a program gives something else.
-- Assumes nothing.
use mathlib.Core.Path.{◌≡◌, refl}
use mathlib.Core.Bool.{true, false}
use mathlib.Core.List.{List, [], ◌∷◌}
use lib.IntN.{ℤ, pos}
use Rattle.geom.specs.declared.Point.{Point}
use Rattle.predicates.specs.Turn.{orientation, on_segment}
use Rattle.rules.specs.declared.Location.TheVariants.{Outside, Inside, OnBoundary}
use Rattle.rules.specs.Edges.{edges_from, edges_of, edge_winding, winding, on_edge}
use Rattle.rules.specs.Lists.{any_of, sum_of}
use Rattle.rules.specs.Plans.{corners_of}
use Rattle.rules.specs.Replies.{ring_reply, by_hole, stronger}
use Rattle.rings.specs.declared.crossings.Crossing.TheVariants.{Nothing, Down}
use Rattle.rings.specs.Crossings.{with_edge, place_by}
use Rattle.rings.specs.Half.{crossed_once}
use Rattle.rings.specs.Parts.{part}
use Rattle.rings.specs.Places.{flipped_by}

-- a hole that says inside of a point inside it
hole_inside : by_hole Inside Inside ≡ Outside
hole_inside = refl

-- a boundary that beats an inside that comes later
inside_wins : stronger OnBoundary Inside ≡ Inside
inside_wins = refl

-- a tree whose parity stays as it is
parity_turned : flipped_by false Inside ≡ true
parity_turned = refl

-- a parity that counts rises alone
falls_counted : crossed_once false Down ≡ true
falls_counted = refl

-- always outside
once_round : place_by (with_edge (pos 1) Nothing) ≡ Inside
once_round = refl

-- ---- a triangle (0, 0) (4, 0) (0, 4)
abbrev triangle : List ℤ
triangle = pos 0 ∷ pos 0 ∷ pos 4 ∷ pos 0 ∷ pos 0 ∷ pos 4 ∷ []

abbrev at : ℤ → ℤ → Point
at x y = record { x = x; y = y }

-- a first edge that is skipped, and a closing edge
first_edge : ring_reply (part (corners_of triangle) 0 3) (at (pos 1) (pos 0)) ≡ OnBoundary
unfolding orientation on_segment edges_from edges_of edge_winding winding on_edge any_of sum_of corners_of ring_reply
first_edge = refl

closing_edge : ring_reply (part (corners_of triangle) 0 3) (at (pos 0) (pos 1)) ≡ OnBoundary
unfolding orientation on_segment edges_from edges_of edge_winding winding on_edge any_of sum_of corners_of ring_reply
closing_edge = refl

-- always outside, of the ring as a whole
not_always_outside : ring_reply (part (corners_of triangle) 0 3) (at (pos 1) (pos 1)) ≡ Inside
unfolding orientation on_segment edges_from edges_of edge_winding winding on_edge any_of sum_of corners_of ring_reply
not_always_outside = refl
