-- The definitions at work: a point beyond the root box's side, halves below zero, and the diamond whose corners lie level with its middle.
-- Assumes nothing.
use mathlib.Core.Path.{◌≡◌, refl}
use mathlib.Core.List.{List, [], ◌∷◌, map}
use lib.IntN.{ℤ, pos, negsuc}
use Rattle.geom.specs.declared.Point.{Point}
use Rattle.geom.specs.declared.Rect.{Rect}
use Rattle.predicates.specs.Turn.{orientation, on_segment}
use Rattle.rules.specs.declared.Ray.{Ray}
use Rattle.rules.specs.declared.Ray.TheVariants.{Right, Left, Up, Down}
use Rattle.rules.specs.Edges.{edges_from, edges_of, edge_winding}
use Rattle.rules.specs.Rays.{winding_on}
use Rattle.rings.specs.declared.crossings.Crossing.{Crossing}
use Rattle.rings.specs.declared.crossings.Crossing.TheVariants.{Nothing, On}
use Rattle.rings.specs.declared.crossings.Crossing as Crossing
use Rattle.rays.specs.Along.{crossing_along}
use Rattle.rays.specs.Reach.{ray_rect, half_rect}

abbrev at : ℤ → ℤ → Point
at x y = record { x = x; y = y }

abbrev box : Point → Point → Rect
box low high = record { min = low; max = high }

-- from the point to the side, and a point beyond the side alone
inside_right : ray_rect Right (box (at (pos 0) (pos 0)) (at (pos 10) (pos 10))) (at (pos 5) (pos 4)) ≡ box (at (pos 5) (pos 4)) (at (pos 10) (pos 4))
inside_right = refl

beyond_right : ray_rect Right (box (at (pos 0) (pos 0)) (at (pos 10) (pos 10))) (at (pos 12) (pos 4)) ≡ box (at (pos 12) (pos 4)) (at (pos 12) (pos 4))
beyond_right = refl

-- half of (−1, 3), rounded outwards, to the side below
halves_down : half_rect Down (box (at (pos 0) (negsuc 6)) (at (pos 10) (pos 10))) (at (negsuc 0) (pos 3)) ≡ box (at (negsuc 0) (negsuc 6)) (at (pos 0) (pos 2))
halves_down = refl

-- the diamond round (5, 0): each ray runs through a corner, and one edge counts on each
abbrev diamond : List Point
diamond = at (pos 0) (pos 0) ∷ at (pos 5) (negsuc 4) ∷ at (pos 10) (pos 0) ∷ at (pos 5) (pos 5) ∷ []

abbrev along : Ray → Point → List Crossing
along ray p = map (λ e. crossing_along ray e.0 e.1 p) (edges_of diamond)

middle_right : along Right (at (pos 5) (pos 0)) ≡ Nothing ∷ Nothing ∷ Crossing.TheVariants.Up ∷ Nothing ∷ []
unfolding crossing_along winding_on edge_winding on_segment orientation edges_of edges_from
middle_right = refl

middle_left : along Left (at (pos 5) (pos 0)) ≡ Crossing.TheVariants.Up ∷ Nothing ∷ Nothing ∷ Nothing ∷ []
unfolding crossing_along winding_on edge_winding on_segment orientation edges_of edges_from
middle_left = refl

middle_up : along Up (at (pos 5) (pos 0)) ≡ Nothing ∷ Nothing ∷ Nothing ∷ Crossing.TheVariants.Up ∷ []
unfolding crossing_along winding_on edge_winding on_segment orientation edges_of edges_from
middle_up = refl

middle_down : along Down (at (pos 5) (pos 0)) ≡ Nothing ∷ Crossing.TheVariants.Up ∷ Nothing ∷ Nothing ∷ []
unfolding crossing_along winding_on edge_winding on_segment orientation edges_of edges_from
middle_down = refl

-- a corner is on both its edges, along any ray
corner_up : along Up (at (pos 10) (pos 0)) ≡ Nothing ∷ On ∷ On ∷ Nothing ∷ []
unfolding crossing_along winding_on edge_winding on_segment orientation edges_of edges_from
corner_up = refl
