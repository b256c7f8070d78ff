-- The rules' words for lists are the library's. Assumes nothing.
use Rattle.std.specs.Prelude.{◌≡◌, Bool, List, [], ◌∷◌, ◌||◌, ℕ, ◌+◌, sum}
use Rattle.std.specs.List.{list_any, fold}
use Rattle.std.proofs.Common.{refl, ap}
use native.Mathlib.Omega.{arith}
use Rattle.rules.specs.Lists.{any_of, total}

pub any_is : {A : Type 0} (test : A → Bool) (xs : List A) → list_any test xs ≡ any_of test xs
unfolding any_of
any_is test [] = refl
any_is test (x ∷ xs) = ap (λ b. test x || b) (any_is test xs)

pub total_from : (start : ℕ) (counts : List ℕ) → fold (λ sum count. sum + count) start counts ≡ start + total counts
unfolding total
total_from start [] = omega arith
total_from start (count ∷ counts) = let rest = total_from (start + count) counts in omega arith

pub total_is : (counts : List ℕ) → sum counts ≡ total counts
total_is counts = let all = total_from 0 counts in omega arith
