-- A sum of weights over a list, item by item. Assumes nothing.
use mathlib.Core.Path.{◌≡◌, ap, sym, ◌∙◌}
use mathlib.Core.List.{List, [], ◌∷◌, map}
use Prim.Native.Nat.{ℕ, suc, ◌+◌}
use native.Mathlib.Numerals.{add-one}
use native.Mathlib.Omega.{arith}
use lib.ListN.{drop}
use Rattle.rules.specs.Lists.{total}

-- the items before item i weigh `sum`
pub record Summed {A : Type 0} (weight : A → ℕ) (xs : List A) (sum i : ℕ) : Type 0 where
  pub all : sum + total (map weight (drop i xs)) ≡ total (map weight xs)

module _ {A : Type 0} (weight : A → ℕ) (xs : List A) where
  pub summed : Summed weight xs 0 0
  summed = record { all = omega arith }

  module _ (sum i : ℕ) (s : Summed weight xs sum i) where
    module _ (x : A) (e : drop i xs ≡ x ∷ drop (suc i) xs) where
      item_here : total (map weight (drop i xs)) ≡ weight x + total (map weight (drop (i + 1) xs))
      unfolding total
      item_here = ap (λ l. total (map weight l)) e ∙ ap (λ j. weight x + total (map weight (drop j xs))) (sym (add-one i))

      pub summed_on : Summed weight xs (sum + weight x) (i + 1)
      summed_on = let h = item_here in let a = s.all in record { all = omega (arith, h, a) }

    pub summed_up : drop i xs ≡ [] → sum ≡ total (map weight xs)
    unfolding total
    summed_up e = let a = s.all in let h = ap (λ l. total (map weight l)) e in omega (arith, a, h)
