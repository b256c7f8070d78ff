-- Wrong programs that the contracts rule out, whatever their code is: what a promise gives where such a program gives something else.
-- Assumes nothing.
use Rattle.std.specs.Prelude.{Err}
use mathlib.Core.Path.{◌≡◌, refl}
use mathlib.Core.Bool.{false}
use mathlib.Core.List.{List, [], ◌∷◌}
use Prim.Native.Nat.{ℕ}
use lib.IntN.{ℤ, pos}
use Rattle.rules.specs.declared.Kind.TheVariants.{Polygons}
use Rattle.rules.specs.declared.Refusal.TheVariants.{Uneven}
use Rattle.rules.specs.Lists.{any_of, total}
use Rattle.rules.specs.Plans.{Plan, corners_of, too_many, uneven, plan_verdict, all_in_range}
use Rattle.rules.specs.Answering.{Accepted}

abbrev listed : List ℤ → List ℕ → List ℕ → Plan
listed coordinates lengths counts = record { kind = Polygons; coordinates = coordinates; lengths = lengths; counts = counts }

-- refusal throughout: a plan of one corner
one_corner : plan_verdict (listed (pos 0 ∷ pos 0 ∷ []) (1 ∷ []) (1 ∷ [])) ≡ Accepted
unfolding plan_verdict too_many uneven total any_of
one_corner = refl

-- an odd list, and a polygon of no rings
odd_list : plan_verdict (listed (pos 0 ∷ pos 0 ∷ pos 0 ∷ []) (1 ∷ []) (1 ∷ [])) ≡ Err Uneven
unfolding plan_verdict too_many uneven total any_of
odd_list = refl

no_rings : plan_verdict (listed (pos 0 ∷ pos 0 ∷ []) (1 ∷ []) (1 ∷ 0 ∷ [])) ≡ Err Uneven
unfolding plan_verdict too_many uneven total any_of
no_rings = refl

-- a last corner that is not tested
last_corner : all_in_range (corners_of (pos 0 ∷ pos 0 ∷ pos 0 ∷ pos 0 ∷ pos 1099511627777 ∷ pos 0 ∷ [])) ≡ false
unfolding all_in_range any_of corners_of
last_corner = refl
