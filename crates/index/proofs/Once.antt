-- A list in which each number below n stands once is a reordering of these numbers: every entry is one of them, each has one place, and
-- a count over the entries is the count over the numbers. Assumes nothing.
use mathlib.Core.Path.{◌≡◌, refl, sym, ap, ap₂, ◌∙◌}
use mathlib.Core.Bool.{Bool, true, false}
use Prim.Native.Nat.{ℕ, zero, suc, ◌+◌, ◌*◌, ◌≤◌, ◌<◌}
use native.Mathlib.Decide.{ℕ_discrete, dec_lt}
use native.Mathlib.Omega.{arith}
use borrow.Author.Tests.{eq-eqb, ne_eqb, eqb-true, lt-ltb, le-ltb, ltb-true}
use lib.Dec.{eqb, ltb}
use Rattle.rules.proofs.Indexed.{count_to, bit}

-- ---- counts
count_most : (test : ℕ → Bool) (n : ℕ) → count_to test n ≤ n
unfolding count_to
count_most test zero = omega arith
count_most test (suc n) = let h = count_most test n in omega (arith, small (test n))
  where
    small : (b : Bool) → bit b ≤ 1
    small true = omega arith
    small false = omega arith

-- what is counted n times of n holds everywhere
count_all : (test : ℕ → Bool) (n : ℕ) → count_to test n ≡ n → (k : ℕ) → k < n → test k ≡ true
unfolding count_to
count_all test zero e k h = absurd (omega arith)
count_all test (suc n) e k h = go (test n) refl (ℕ_discrete k n) (count_all test n) (count_most test n)
  where
    go : (b : Bool) → test n ≡ b → Dec (k ≡ n) → (count_to test n ≡ n → (j : ℕ) → j < n → test j ≡ true) → count_to test n ≤ n → test k ≡ true
    go true f (yes q) ih m = ap test q ∙ f
    go true f (no d) ih m = ih (omega (arith, ap bit f)) k (omega arith)
    go false f d ih m = absurd (omega (arith, ap bit f))

-- what is counted holds somewhere
count_some : (test : ℕ → Bool) (n : ℕ) → 0 < count_to test n → (k : ℕ) × (k < n) × (test k ≡ true)
unfolding count_to
count_some test zero h = absurd (omega arith)
count_some test (suc n) h = go (test n) refl (count_some test n)
  where
    go : (b : Bool) → test n ≡ b → (0 < count_to test n → (k : ℕ) × (k < n) × (test k ≡ true)) → (k : ℕ) × (k < suc n) × (test k ≡ true)
    go true f ih = (n, omega arith, f)
    go false f ih = let r = ih (omega (arith, ap bit f)) in (r.0, omega (arith, r.1), r.2)

-- and what holds is counted
counted : (test : ℕ → Bool) (n k : ℕ) → k < n → test k ≡ true → 1 ≤ count_to test n
unfolding count_to
counted test zero k h e = absurd (omega arith)
counted test (suc n) k h e = go (ℕ_discrete k n) (counted test n k)
  where
    go : Dec (k ≡ n) → (k < n → test k ≡ true → 1 ≤ count_to test n) → 1 ≤ count_to test n + bit (test n)
    go (yes q) ih = omega (arith, ap bit (ap test (sym q) ∙ e))
    go (no d) ih = let r = ih (omega arith) e in omega arith

-- twice, if it holds twice
count_twice : (test : ℕ → Bool) (n j k : ℕ) → j < k → k < n → test j ≡ true → test k ≡ true → 2 ≤ count_to test n
unfolding count_to
count_twice test zero j k l h e f = absurd (omega arith)
count_twice test (suc n) j k l h e f = go (ℕ_discrete k n) (count_twice test n j k l)
  where
    go : Dec (k ≡ n) → (k < n → test j ≡ true → test k ≡ true → 2 ≤ count_to test n) → 2 ≤ count_to test n + bit (test n)
    go (yes q) ih = omega (arith, ap bit (ap test (sym q) ∙ f), counted test n j (omega arith) e)
    go (no d) ih = let r = ih (omega arith) e f in omega arith

-- ---- sums
sum_n : (ℕ → ℕ) → ℕ → ℕ
sum_n f zero = 0
sum_n f (suc n) = sum_n f n + f n

sum_same : (f g : ℕ → ℕ) (n : ℕ) → ((i : ℕ) → i < n → f i ≡ g i) → sum_n f n ≡ sum_n g n
unfolding sum_n
sum_same f g zero e = refl
sum_same f g (suc n) e = ap₂ ◌+◌ (sum_same f g n (λ i l. e i (omega arith))) (e n (omega arith))

sum_add : (f g : ℕ → ℕ) (n : ℕ) → sum_n (λ i. f i + g i) n ≡ sum_n f n + sum_n g n
unfolding sum_n
sum_add f g zero = refl
sum_add f g (suc n) = let r = sum_add f g n in omega arith

sum_none : (n : ℕ) → sum_n (λ i. 0) n ≡ 0
unfolding sum_n
sum_none zero = refl
sum_none (suc n) = let r = sum_none n in omega arith

sum_count : (test : ℕ → Bool) (n : ℕ) → sum_n (λ i. bit (test i)) n ≡ count_to test n
unfolding sum_n count_to
sum_count test zero = refl
sum_count test (suc n) = let r = sum_count test n in omega arith

sum_ones : (n : ℕ) → sum_n (λ i. 1) n ≡ n
unfolding sum_n
sum_ones zero = refl
sum_ones (suc n) = let r = sum_ones n in omega arith

-- the weight of one number, picked out of a sum
picked : (g : ℕ → ℕ) (y n : ℕ) → sum_n (λ e. g e * bit (eqb y e)) n ≡ bit (ltb y n) * g y
unfolding sum_n
picked g y zero = omega (arith, ap bit (le-ltb y 0 (omega arith)), ap (λ b. b * g y) (ap bit (le-ltb y 0 (omega arith))))
picked g y (suc n) = go (ℕ_discrete y n) (dec_lt y n) (picked g y n)
  where
    go : Dec (y ≡ n) → Dec (y < n) → sum_n (λ e. g e * bit (eqb y e)) n ≡ bit (ltb y n) * g y → sum_n (λ e. g e * bit (eqb y e)) n + g n * bit (eqb y n) ≡ bit (ltb y (suc n)) * g y
    go (yes q) d ih =
        let a = ap (λ b. bit b * g y) (le-ltb y n (omega arith)) in
        let b = ap (λ b. bit b * g y) (lt-ltb y (suc n) (omega arith)) in
        let c = ap (λ b. g n * bit b) (eq-eqb y n q) in
        let h = ap g q in
        omega arith
    go (no m) (yes l) ih =
        let a = ap (λ b. bit b * g y) (lt-ltb y n l) in
        let b = ap (λ b. bit b * g y) (lt-ltb y (suc n) (omega arith)) in
        let c = ap (λ b. g n * bit b) (ne_eqb y n m) in
        omega arith
    go (no m) (no l) ih =
        let a = ap (λ b. bit b * g y) (le-ltb y n (omega arith)) in
        let b = ap (λ b. bit b * g y) (le-ltb y (suc n) (omega arith)) in
        let c = ap (λ b. g n * bit b) (ne_eqb y n m) in
        omega arith

-- counted number by number, or place by place
double : (g x : ℕ → ℕ) (n m : ℕ) → sum_n (λ e. g e * count_to (λ k. eqb (x k) e) m) n ≡ sum_n (λ k. bit (ltb (x k) n) * g (x k)) m
unfolding sum_n count_to
double g x n zero = sum_same (λ e. g e * 0) (λ e. 0) n (λ e l. omega arith) ∙ sum_none n
double g x n (suc m) =
    sum_same (λ e. g e * (count_to (λ k. eqb (x k) e) m + bit (eqb (x m) e))) (λ e. g e * count_to (λ k. eqb (x k) e) m + g e * bit (eqb (x m) e)) n (λ e l. omega arith)
    ∙ sum_add (λ e. g e * count_to (λ k. eqb (x k) e) m) (λ e. g e * bit (eqb (x m) e)) n ∙ ap₂ ◌+◌ (double g x n m) (picked g (x m) n)

-- ---- each number below n once among the first n entries
module _ (x : ℕ → ℕ) (n : ℕ) (once : (e : ℕ) → e < n → count_to (λ k. eqb (x k) e) n ≡ 1) where
  -- every entry is one of the numbers
  pub entry_in_lem : (k : ℕ) → k < n → x k < n
  entry_in_lem k h =
      let all : count_to (λ k. ltb (x k) n) n ≡ n =
      sym (sum_count (λ k. ltb (x k) n) n) ∙ sum_same (λ k. bit (ltb (x k) n)) (λ k. bit (ltb (x k) n) * 1) n (λ k l. omega arith)
      ∙ sym (double (λ e. 1) x n n) ∙ sum_same (λ e. 1 * count_to (λ k. eqb (x k) e) n) (λ e. 1) n (λ e l. let o = once e l in omega arith) ∙ sum_ones n in
      ltb-true (x k) n (count_all (λ k. ltb (x k) n) n all k h)

  -- each number has a place
  pub entry_place : (e : ℕ) → e < n → (k : ℕ) × (k < n) × (x k ≡ e)
  entry_place e h = let r = count_some (λ k. eqb (x k) e) n (omega (arith, once e h)) in (r.0, r.1, eqb-true (x r.0) e r.2)

  -- and one only
  pub entry_once : (j k : ℕ) → j < n → k < n → x j ≡ x k → j ≡ k
  entry_once j k hj hk e = go (dec_lt j k) (dec_lt k j)
    where
      twice : (i l : ℕ) → i < l → l < n → x i ≡ x l → ⊥
      twice i l u v q = omega (arith, once (x l) (entry_in_lem l v), count_twice (λ k. eqb (x k) (x l)) n i l u v (eq-eqb (x i) (x l) q) (eq-eqb (x l) (x l) refl))

      go : Dec (j < k) → Dec (k < j) → j ≡ k
      go (yes a) b = absurd (twice j k a hk e)
      go (no a) (yes b) = absurd (twice k j b hj (sym e))
      go (no a) (no b) = omega arith

  -- a count over the entries is the count over the numbers
  pub entries_counted : (test : ℕ → Bool) → count_to (λ k. test (x k)) n ≡ count_to test n
  entries_counted test =
      sym (sum_count (λ k. test (x k)) n)
      ∙ sum_same (λ k. bit (test (x k))) (λ k. bit (ltb (x k) n) * bit (test (x k))) n (λ k l. let o = ap (λ b. bit b * bit (test (x k))) (lt-ltb (x k) n (entry_in_lem k l)) in omega arith)
      ∙ sym (double (λ e. bit (test e)) x n n)
      ∙ sum_same (λ e. bit (test e) * count_to (λ k. eqb (x k) e) n) (λ e. bit (test e)) n (λ e l. let o = ap (λ c. bit (test e) * c) (once e l) in omega arith)
      ∙ sum_count test n
