-- Whether all corners are in range, corner by corner. Assumes nothing.
use mathlib.Core.Path.{◌≡◌, refl, ap, sym, ◌∙◌}
use mathlib.Core.Bool.{Bool, true, false, not, ◌&&◌, ◌||◌}
use mathlib.Core.List.{List}
use Prim.Native.Nat.{ℕ, zero, suc, ◌+◌, ◌/◌}
use native.Mathlib.Omega.{arith}
use lib.IntN.{ℤ}
use lib.ListN.{length, drop, drop_of_length-le}
use Rattle.std.specs.List.{list_all, range_with_len}
use Rattle.geom.specs.declared.Point.{Point}
use Rattle.geom.specs.Range.{in_range}
use Rattle.rules.specs.Lists.{any_of}
use Rattle.rules.specs.Plans.{corners_of, corner_at, all_in_range}
use Rattle.rules.proofs.Corners.{corners_cons, corners_length}

abbrev strays : Point → Bool
strays corner = not (in_range corner)

and_not_or : (a b : Bool) → (a && not b) ≡ not (not a || b)
and_not_or true b = refl
and_not_or false b = refl

-- the corners from corner i on, n of them
from_on : (coordinates : List ℤ) (n i : ℕ) → i + n ≡ length coordinates / 2 → list_all (λ k. in_range (corner_at coordinates k)) (range_with_len i n) ≡ not (any_of strays (drop i (corners_of coordinates)))
unfolding any_of
from_on coordinates zero i e = let l = corners_length coordinates in ap (λ xs. not (any_of strays xs)) (sym (drop_of_length-le (corners_of coordinates) (omega arith)))
from_on coordinates (suc n) i e =
    ap (λ b. in_range (corner_at coordinates i) && b) (from_on coordinates n (i + 1) (omega arith))
    ∙ and_not_or (in_range (corner_at coordinates i)) (any_of strays (drop (i + 1) (corners_of coordinates)))
    ∙ ap (λ xs. not (any_of strays xs)) (sym (corners_cons coordinates i (omega arith)))

pub each_in_range : (coordinates : List ℤ) → list_all (λ k. in_range (corner_at coordinates k)) (range_with_len 0 (length coordinates / 2)) ≡ all_in_range (corners_of coordinates)
unfolding all_in_range
each_in_range coordinates = from_on coordinates (length coordinates / 2) 0 (omega arith)
