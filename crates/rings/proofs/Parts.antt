-- Parts of the corner list. Assumes nothing.
use mathlib.Core.Path.{◌≡◌, ◌∙◌, ap}
use mathlib.Core.List.{List, [], ◌∷◌}
use Prim.Native.Nat.{ℕ, suc, ◌+◌, ◌-◌, ◌*◌, ◌<◌, ◌≤◌}
use native.Mathlib.Omega.{arith}
use lib.IntN.{ℤ}
use lib.ListN.{length, take, drop}
use Rattle.rules.specs.Plans.{corners_of, corner_at}
use Rattle.rules.proofs.Corners.{corners_cons}
use Rattle.rings.specs.Parts.{part}

pub part_none : {A : Type 0} (xs : List A) (e : ℕ) → part xs e e ≡ []
part_none xs e = ap (λ n. take n (drop e xs)) (let h : e - e ≡ 0 = omega arith in h)

pub part_corner : (coordinates : List ℤ) (i e : ℕ) → i < e → 2 * e ≤ length coordinates → part (corners_of coordinates) i e ≡ corner_at coordinates i ∷ part (corners_of coordinates) (i + 1) e
part_corner coordinates i e h reach =
    ap (λ n. take n (drop i (corners_of coordinates))) (let k : e - i ≡ suc (e - (i + 1)) = omega arith in k)
    ∙ ap (take (suc (e - (i + 1)))) (corners_cons coordinates i (omega arith))
