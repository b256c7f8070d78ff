-- Whether a table sums to n, by what is left of n after its first entries. Assumes nothing.
use mathlib.Core.Path.{◌≡◌, refl, sym, ◌∙◌, ap}
use mathlib.Core.Bool.{Bool, true, false}
use mathlib.Core.List.{List}
use Prim.Native.Nat.{ℕ, ◌+◌, ◌-◌, ◌<◌, ◌≤◌}
use native.Mathlib.Omega.{arith}
use native.Mathlib.Numerals.{add-one}
use borrow.Author.Tests.{eqb-true, eqb-false, eq-eqb, ne_eqb}
use lib.Dec.{eqb}
use lib.ListN.{length, get_or, drop, drop_of_length-le}
use lib.Seq.{drop-cons}
use Rattle.rules.specs.Lists.{total}

-- what remains of n after the first i entries is `left`
pub record Remaining (table : List ℕ) (n left i : ℕ) : Type 0 where
  pub passed : i ≤ length table
  pub balance : n + total (drop i table) ≡ left + total table

total_step : (table : List ℕ) (i : ℕ) → i < length table → total (drop i table) ≡ get_or table i 0 + total (drop (i + 1) table)
unfolding total
total_step table i h = rw (add-one, drop-cons table i 0)

total_end : (table : List ℕ) (i : ℕ) → length table ≤ i → total (drop i table) ≡ 0
unfolding total
total_end table i h = ap total (drop_of_length-le table h)

same_test : (a b c d : ℕ) → (a ≡ b → c ≡ d) → (c ≡ d → a ≡ b) → eqb a b ≡ eqb c d
same_test a b c d f g = go (eqb a b) refl
  where
    go : (t : Bool) → eqb a b ≡ t → eqb a b ≡ eqb c d
    go true e = e ∙ sym (eq-eqb c d (f (eqb-true a b e)))
    go false e = e ∙ sym (ne_eqb c d (λ h. eqb-false a b e (g h)))

pub start : (table : List ℕ) (n : ℕ) → Remaining table n n 0
start table n = record { passed = omega arith; balance = refl }

module _ (table : List ℕ) (n left i : ℕ) (so_far : Remaining table n left i) where
  pub next : i < length table → get_or table i 0 ≤ left → Remaining table n (left - get_or table i 0) (i + 1)
  next h fits = record { passed = omega arith; balance = omega (arith, total_step table i h) }

  -- an entry above what is left: the sum is above n
  pub exceeded : i < length table → left < get_or table i 0 → false ≡ eqb (total table) n
  exceeded h above = sym (ne_eqb (total table) n (λ e. omega (arith, total_step table i h)))

  pub finished : length table ≤ i → eqb left 0 ≡ eqb (total table) n
  finished h = same_test left 0 (total table) n (λ e. omega (arith, total_end table i h)) (λ e. omega (arith, total_end table i h))
