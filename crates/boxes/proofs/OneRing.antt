-- A plan of one ring: its ring table holds where the ring ends, and corners that were found in range are near. Assumes nothing.
use mathlib.Core.Path.{◌≡◌, refl, sym, ◌∙◌, ap}
use mathlib.Core.Bool.{true}
use mathlib.Core.List.{List, [], ◌∷◌}
use Prim.Native.Nat.{ℕ, zero, suc, ◌/◌, ◌≤◌, ◌<◌}
use native.Mathlib.Omega.{arith}
use lib.IntN.{ℤ, pos}
use lib.ListN.{length, get_or}
use Rattle.geom.specs.declared.Point.{Point}
use Rattle.geom.specs.Range.{in_range}
use Rattle.rules.specs.Plans.{corners_of, all_in_range}
use Rattle.rules.proofs.Corners.{corners_length, near_at, corner_is}
use Rattle.boxes.specs.Rings.{start_of, RingEnds, CornersNear}

pub one_ring : (n : ℕ) → RingEnds n 1 (n ∷ [])
unfolding start_of
one_ring n = record { reach = omega arith; rise = rise; all = refl }
  where
    rise : (r : ℕ) → r < 1 → start_of (n ∷ []) r ≤ get_or (n ∷ []) r 0
    rise zero l = omega arith
    rise (suc r) l = absurd (omega arith)

pub near_corners : (n : ℕ) (corners : List ℤ) → n ≤ 1048576 → n ≤ length corners / 2 → all_in_range (corners_of corners) ≡ true → CornersNear n corners
near_corners n corners few reach near = record {
  reach = omega arith;
  few = few;
  near = λ i h.
      let p : Point = record { x = pos 0; y = pos 0 } in
      ap in_range (sym (corner_is corners i p (omega arith))) ∙ near_at (corners_of corners) near i p (omega (arith, corners_length corners));
}
