-- What is packed from the first place on. Assumes nothing.
use mathlib.Core.Path.{◌≡◌, subst}
use mathlib.Core.List.{List}
use Prim.Native.Nat.{ℕ, ◌+◌}
use native.Mathlib.Omega.{arith}
use Rattle.cut.specs.Keys.{Mapped}

-- the n places from the first on
pub from_first : (g : ℕ → ℕ) (n : ℕ) (xs ys : List ℕ) → Mapped g 0 (0 + n) xs ys → Mapped g 0 n xs ys
from_first g n xs ys packed = let e : 0 + n ≡ n = omega arith in subst (λ m. Mapped g 0 m xs ys) e packed
