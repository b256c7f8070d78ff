-- Wrong programs that the contracts rule out, whatever their code is: what a promise gives where such a program gives something else, and
-- what it leaves no room for. Assumes nothing.
use mathlib.Core.Path.{◌≡◌, refl}
use mathlib.Core.List.{List, [], ◌∷◌}
use Prim.Native.Nat.{ℕ, ◌≤◌}
use native.Mathlib.Omega.{arith}
use lib.IntN.{ℤ, pos}
use lib.ListN.{get_or}
use Rattle.geom.specs.declared.Rect.{Rect}
use Rattle.boxes.specs.Boxes.{edge_box, box_of, row_of}
use Rattle.boxes.specs.Rings.{start_of, next_from, next_corner, next_in, edge_of, RingAt}

-- ---- two triangles, (0, 0) (4, 0) (0, 4) and (9, 9) (9, 8) (8, 9)
abbrev corners : List ℤ
corners = pos 0 ∷ pos 0 ∷ pos 4 ∷ pos 0 ∷ pos 0 ∷ pos 4 ∷ pos 9 ∷ pos 9 ∷ pos 9 ∷ pos 8 ∷ pos 8 ∷ pos 9 ∷ []

abbrev rings : List ℕ
rings = 3 ∷ 6 ∷ []

abbrev box : ℤ → ℤ → ℤ → ℤ → Rect
box left low right high = record { min = record { x = left; y = low }; max = record { x = right; y = high } }

-- an edge whose end is left out of its box
whole_edge : edge_box corners rings 0 ≡ box (pos 0) (pos 0) (pos 4) (pos 0)
unfolding edge_box edge_of next_corner next_from start_of
whole_edge = refl

-- a last edge that runs on into the next ring
closed : next_in 0 3 2 ≡ 0
closed = refl

-- a part whose last edge is left out of its box
whole_part : box_of corners rings (0 ∷ 3 ∷ []) 0 2 ≡ box (pos 0) (pos 0) (pos 9) (pos 9)
unfolding box_of edge_box edge_of next_corner next_from start_of
whole_part = refl

-- a row out of order
in_order : row_of (box (pos 1) (pos 2) (pos 3) (pos 4)) ≡ pos 1 ∷ pos 2 ∷ pos 3 ∷ pos 4 ∷ []
in_order = refl

-- a ring that ends late, and a guess that is taken untested: no ring that ends before a corner is the corner's
not_ended_before : (ends : List ℕ) (count e r : ℕ) → get_or ends r 0 ≤ e → RingAt ends count e r → ⊥
not_ended_before ends count e r before at = omega (arith, before, at.to)
