-- Elements moved up one place, from the last one down, to make room for one more. Assumes nothing.
use mathlib.Core.Path.{◌≡◌}
use mathlib.Core.List.{List}
use Prim.Native.Nat.{ℕ, ◌+◌, ◌≤◌, ◌<◌}
use lib.ListN.{length, get_or}

-- the elements from j to `used` have moved up, and those before j have not
pub record Shifted {A : Type 0} (d : A) (xs : List A) (used j : ℕ) (ys : List A) : Type 0 where
  pub long : length ys ≡ length xs
  pub before : (i : ℕ) → i < j → get_or ys i d ≡ get_or xs i d
  pub after : (i : ℕ) → j ≤ i → i < used → get_or ys (i + 1) d ≡ get_or xs i d
