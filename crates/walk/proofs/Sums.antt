-- Sums, counts and flags over the numbers below n: reordered, over a part of the numbers alone, and ring by ring. Assumes nothing.
use mathlib.Core.Path.{◌≡◌, refl, sym, ap, ap₂, ◌∙◌}
use mathlib.Core.Bool.{Bool, true, false, cond, ◌&&◌, ◌||◌}
use mathlib.Core.List.{List}
use Prim.Native.Nat.{ℕ, zero, suc, ◌+◌, ◌-◌, ◌≤◌, ◌<◌}
use native.Mathlib.Decide.{ℕ_discrete, dec_lt}
use native.Mathlib.Omega.{arith}
use borrow.Author.Tests.{eq-eqb, ne_eqb, lt-ltb, le-ltb, le-leb, lt-leb}
use lib.Dec.{eqb, leb, ltb}
use lib.IntN.{ℤ, pos, negsuc, ◌+ℤ◌, +ℤ_idl, +ℤ_idr, +ℤ_assoc}
use lib.ListN.{get_or}
use Rattle.integers.proofs.Differences.{◌⊖◌, pos_⊖, ⊖_add}
use Rattle.integers.proofs.Order.{+ℤ_left_comm}
use Rattle.integers.proofs.Tests.{and_none, or_none}
use Rattle.rules.proofs.Indexed.{bit, sum_to, count_to, any_to}
use Rattle.boxes.specs.Rings.{start_of, in_ring, RingAt, RingEnds}
use Rattle.boxes.proofs.Rings.{start_zero, start_suc, one_ring}

-- ---- sums
pub sum_same : (f g : ℕ → ℤ) (n : ℕ) → ((i : ℕ) → i < n → f i ≡ g i) → sum_to f n ≡ sum_to g n
unfolding sum_to
sum_same f g zero e = refl
sum_same f g (suc n) e = ap₂ ◌+ℤ◌ (sum_same f g n (λ i l. e i (omega arith))) (e n (omega arith))

pub sum_none : (f : ℕ → ℤ) (n : ℕ) → ((i : ℕ) → i < n → f i ≡ pos 0) → sum_to f n ≡ pos 0
unfolding sum_to
sum_none f zero e = refl
sum_none f (suc n) e = ap₂ ◌+ℤ◌ (sum_none f n (λ i l. e i (omega arith))) (e n (omega arith))

cross : (a b c d : ℤ) → (a +ℤ b) +ℤ (c +ℤ d) ≡ (a +ℤ c) +ℤ (b +ℤ d)
cross a b c d = +ℤ_assoc a b (c +ℤ d) ∙ ap (λ z. a +ℤ z) (+ℤ_left_comm b c d) ∙ sym (+ℤ_assoc a c (b +ℤ d))

sum_plus : (f g : ℕ → ℤ) (n : ℕ) → sum_to (λ i. f i +ℤ g i) n ≡ sum_to f n +ℤ sum_to g n
unfolding sum_to
sum_plus f g zero = refl
sum_plus f g (suc n) = ap (λ z. z +ℤ (f n +ℤ g n)) (sum_plus f g n) ∙ cross (sum_to f n) (sum_to g n) (f n) (g n)

-- a sum with one number in it that is not 0
sum_only : (f : ℕ → ℤ) (n k : ℕ) → k < n → ((j : ℕ) → j < n → (j ≡ k → ⊥) → f j ≡ pos 0) → sum_to f n ≡ f k
unfolding sum_to
sum_only f zero k h z = absurd (omega arith)
sum_only f (suc n) k h z = go (ℕ_discrete k n) (sum_only f n k)
  where
    go : Dec (k ≡ n) → (k < n → ((j : ℕ) → j < n → (j ≡ k → ⊥) → f j ≡ pos 0) → sum_to f n ≡ f k) → sum_to f n +ℤ f n ≡ f k
    go (yes e) ih = ap (λ s. s +ℤ f n) (sum_none f n (λ j l. z j (omega arith) (omega arith))) ∙ +ℤ_idl (f n) ∙ ap f (sym e)
    go (no d) ih = ap₂ ◌+ℤ◌ (ih (omega arith) (λ j l. z j (omega arith))) (z n (omega arith) (omega arith)) ∙ +ℤ_idr (f k)

-- row by row or column by column
sum_swap : (f : ℕ → ℕ → ℤ) (m n : ℕ) → sum_to (λ k. sum_to (f k) n) m ≡ sum_to (λ e. sum_to (λ k. f k e) m) n
unfolding sum_to
sum_swap f zero n = sym (sum_none (λ e. pos 0) n (λ i l. refl))
sum_swap f (suc m) n = ap (λ z. z +ℤ sum_to (f m) n) (sum_swap f m n) ∙ sym (sum_plus (λ e. sum_to (λ k. f k e) m) (f m) n)

-- the sum over a reordering of the numbers below n
module _ (x : ℕ → ℕ) (n : ℕ) (inside : (k : ℕ) → k < n → x k < n) (place : (e : ℕ) → e < n → (k : ℕ) × (k < n) × (x k ≡ e)) (once : (j k : ℕ) → j < n → k < n → x j ≡ x k → j ≡ k) (w : ℕ → ℤ) where
  pick : ℕ → ℕ → ℤ
  pick k e = cond (eqb (x k) e) (w e) (pos 0)

  pick_own : (k e : ℕ) → x k ≡ e → pick k e ≡ w e
  unfolding pick
  pick_own k e h = ap (λ b. cond b (w e) (pos 0)) (eq-eqb (x k) e h)

  pick_other : (k e : ℕ) → (x k ≡ e → ⊥) → pick k e ≡ pos 0
  unfolding pick
  pick_other k e h = ap (λ b. cond b (w e) (pos 0)) (ne_eqb (x k) e h)

  by_number : (k : ℕ) → k < n → w (x k) ≡ sum_to (pick k) n
  by_number k h = sym (sum_only (pick k) n (x k) (inside k h) (λ j l d. pick_other k j (λ e. d (sym e))) ∙ pick_own k (x k) refl)

  by_place : (e : ℕ) → e < n → sum_to (λ k. pick k e) n ≡ w e
  by_place e h =
      let p = place e h in
      sum_only (λ k. pick k e) n p.0 p.1 (λ j l d. pick_other j e (λ q. d (once j p.0 l p.1 (q ∙ sym p.2)))) ∙ pick_own p.0 e p.2

  pub sum_reordered : sum_to (λ k. w (x k)) n ≡ sum_to w n
  sum_reordered = sum_same (λ k. w (x k)) (λ k. sum_to (pick k) n) n by_number ∙ sum_swap pick n n ∙ sum_same (λ e. sum_to (λ k. pick k e) n) w n by_place

-- ---- counts and flags by sums
pub sum_bits : (test : ℕ → Bool) (n : ℕ) → sum_to (λ i. pos (bit (test i))) n ≡ pos (count_to test n)
unfolding sum_to count_to
sum_bits test zero = refl
sum_bits test (suc n) = ap (λ z. z +ℤ pos (bit (test n))) (sum_bits test n)

pos_one : (a b : ℕ) → pos a ≡ pos b → a ≡ b
pos_one a b e = ap up e
  where
    up : ℤ → ℕ
    up (pos k) = k
    up (negsuc k) = 0

pub any_count : (test : ℕ → Bool) (n : ℕ) → any_to test n ≡ ltb 0 (count_to test n)
unfolding any_to count_to
any_count test zero = refl
any_count test (suc n) = ap (λ b. b || test n) (any_count test n) ∙ go (test n)
  where
    go : (b : Bool) → ltb 0 (count_to test n) || b ≡ ltb 0 (count_to test n + bit b)
    go true = some (ltb 0 (count_to test n)) ∙ sym (lt-ltb 0 (count_to test n + 1) (omega arith))
      where
        some : (a : Bool) → a || true ≡ true
        some true = refl
        some false = refl
    go false = or_none (ltb 0 (count_to test n)) ∙ ap (ltb 0) (let e : count_to test n ≡ count_to test n + 0 = omega arith in e)

-- a signed sum by two counts: how often +1 and how often −1
pub sum_ups_downs : (w : ℕ → ℤ) (up down : ℕ → Bool) (n : ℕ) → ((i : ℕ) → i < n → w i ≡ bit (up i) ⊖ bit (down i)) → sum_to w n ≡ count_to up n ⊖ count_to down n
unfolding sum_to count_to
sum_ups_downs w up down zero e = pos_⊖ 0
sum_ups_downs w up down (suc n) e = ap₂ ◌+ℤ◌ (sum_ups_downs w up down n (λ i l. e i (omega arith))) (e n (omega arith)) ∙ ⊖_add (count_to up n) (count_to down n) (bit (up n)) (bit (down n))

-- ---- parts of the numbers
pub sum_split : (w : ℕ → ℤ) (m k : ℕ) → sum_to w (m + k) ≡ sum_to w m +ℤ sum_to (λ i. w (m + i)) k
unfolding sum_to
sum_split w m zero = ap (sum_to w) (let e : m + 0 ≡ m = omega arith in e) ∙ sym (+ℤ_idr (sum_to w m))
sum_split w m (suc k) =
    ap (sum_to w) (let e : m + suc k ≡ suc (m + k) = omega arith in e) ∙ ap (λ z. z +ℤ w (m + k)) (sum_split w m k) ∙ +ℤ_assoc (sum_to w m) (sum_to (λ i. w (m + i)) k) (w (m + k))

-- the edges of ring r alone
abbrev pub of_ring : List ℕ → ℕ → (ℕ → ℤ) → ℕ → ℤ
of_ring rings r w e = cond (in_ring rings r e) (w e) (pos 0)

module _ (rings : List ℕ) (r : ℕ) (w : ℕ → ℤ) where
  ring_own : (e : ℕ) → start_of rings r ≤ e → e < get_or rings r 0 → of_ring rings r w e ≡ w e
  ring_own e a b = ap₂ (λ x y. cond (x && y) (w e) (pos 0)) (le-leb (start_of rings r) e a) (lt-ltb e (get_or rings r 0) b)

  ring_before : (e : ℕ) → e < start_of rings r → of_ring rings r w e ≡ pos 0
  ring_before e a = ap (λ x. cond (x && ltb e (get_or rings r 0)) (w e) (pos 0)) (lt-leb (start_of rings r) e a)

  ring_after : (e : ℕ) → get_or rings r 0 ≤ e → of_ring rings r w e ≡ pos 0
  ring_after e a = ap (λ y. cond (leb (start_of rings r) e && y) (w e) (pos 0)) (le-ltb e (get_or rings r 0) a) ∙ ap (λ b. cond b (w e) (pos 0)) (and_none (leb (start_of rings r) e))

  -- a sum over the edges of one ring alone is the sum over the ring, from its first edge on
  pub sum_ring : (n : ℕ) → start_of rings r ≤ get_or rings r 0 → get_or rings r 0 ≤ n → sum_to (of_ring rings r w) n ≡ sum_to (λ i. w (start_of rings r + i)) (get_or rings r 0 - start_of rings r)
  sum_ring n a b =
      let s = start_of rings r in
      let m = get_or rings r 0 - s in
      let whole : n ≡ s + (m + (n - get_or rings r 0)) = omega arith in
      ap (sum_to (of_ring rings r w)) whole
      ∙ sum_split (of_ring rings r w) s (m + (n - get_or rings r 0))
      ∙ ap₂ ◌+ℤ◌ (sum_none (of_ring rings r w) s (λ i l. ring_before i l))
      (sum_split (λ i. of_ring rings r w (s + i)) m (n - get_or rings r 0)
      ∙ ap₂ ◌+ℤ◌ (sum_same (λ i. of_ring rings r w (s + i)) (λ i. w (s + i)) m (λ i l. ring_own (s + i) (omega arith) (omega arith)))
      (sum_none (λ i. of_ring rings r w (s + (m + i))) (n - get_or rings r 0) (λ i l. ring_after (s + (m + i)) (omega arith))))
      ∙ +ℤ_idl (sum_to (λ i. w (s + i)) m +ℤ pos 0)
      ∙ +ℤ_idr (sum_to (λ i. w (s + i)) m)

-- and so are a count and a flag
pub count_ring : (rings : List ℕ) (r : ℕ) (test : ℕ → Bool) (n : ℕ) → start_of rings r ≤ get_or rings r 0 → get_or rings r 0 ≤ n
    → count_to (λ e. in_ring rings r e && test e) n ≡ count_to (λ i. test (start_of rings r + i)) (get_or rings r 0 - start_of rings r)
count_ring rings r test n a b =
    pos_one (count_to (λ e. in_ring rings r e && test e) n) (count_to (λ i. test (start_of rings r + i)) (get_or rings r 0 - start_of rings r))
    (sym (sum_bits (λ e. in_ring rings r e && test e) n)
    ∙ sum_same (λ e. pos (bit (in_ring rings r e && test e))) (of_ring rings r (λ e. pos (bit (test e)))) n (λ e l. either (in_ring rings r e) (test e))
    ∙ sum_ring rings r (λ e. pos (bit (test e))) n a b
    ∙ sum_bits (λ i. test (start_of rings r + i)) (get_or rings r 0 - start_of rings r))
  where
    either : (x y : Bool) → pos (bit (x && y)) ≡ cond x (pos (bit y)) (pos 0)
    either true y = refl
    either false y = refl

pub any_ring : (rings : List ℕ) (r : ℕ) (test : ℕ → Bool) (n : ℕ) → start_of rings r ≤ get_or rings r 0 → get_or rings r 0 ≤ n
    → any_to (λ e. in_ring rings r e && test e) n ≡ any_to (λ i. test (start_of rings r + i)) (get_or rings r 0 - start_of rings r)
any_ring rings r test n a b =
    any_count (λ e. in_ring rings r e && test e) n ∙ ap (ltb 0) (count_ring rings r test n a b) ∙ sym (any_count (λ i. test (start_of rings r + i)) (get_or rings r 0 - start_of rings r))

-- whether an edge whose ring is known is one of ring r
pub ring_told : (n count : ℕ) (rings : List ℕ) → RingEnds n count rings → (e s r : ℕ) → r < count → RingAt rings count e s → in_ring rings r e ≡ eqb s r
ring_told n count rings R e s r h A = go (ℕ_discrete s r) (dec_lt e (start_of rings r)) (dec_lt e (get_or rings r 0))
  where
    go : Dec (s ≡ r) → Dec (e < start_of rings r) → Dec (e < get_or rings r 0) → in_ring rings r e ≡ eqb s r
    go (yes q) d f = ap₂ ◌&&◌ (le-leb (start_of rings r) e (omega (arith, A.from, ap (start_of rings) q))) (lt-ltb e (get_or rings r 0) (omega (arith, A.to, ap (λ k. get_or rings k 0) q))) ∙ sym (eq-eqb s r q)
    go (no q) (yes d) f = ap (λ b. b && ltb e (get_or rings r 0)) (lt-leb (start_of rings r) e d) ∙ sym (ne_eqb s r q)
    go (no q) (no d) (no f) = ap (λ b. leb (start_of rings r) e && b) (le-ltb e (get_or rings r 0) (omega arith)) ∙ and_none (leb (start_of rings r) e) ∙ sym (ne_eqb s r q)
    go (no q) (no d) (yes f) = absurd (q (one_ring n count rings R e s r A (record { ring = h; from = omega arith; to = f })))

-- a sum over all edges in plan order is the sum over the rings of the sums over their edges
pub sum_rings : (rings : List ℕ) (w : ℕ → ℤ) (count : ℕ) → ((r : ℕ) → r < count → start_of rings r ≤ get_or rings r 0) → sum_to w (start_of rings count) ≡ sum_to (λ r. sum_to (λ i. w (start_of rings r + i)) (get_or rings r 0 - start_of rings r)) count
unfolding sum_to
sum_rings rings w zero rise = ap (sum_to w) (start_zero rings)
sum_rings rings w (suc count) rise =
    let up = rise count (omega arith) in
    let s = start_of rings count in
    let end : start_of rings (suc count) ≡ s + (get_or rings count 0 - s) = ap (start_of rings) (let e : suc count ≡ count + 1 = omega arith in e) ∙ start_suc rings count ∙ (let e : get_or rings count 0 ≡ s + (get_or rings count 0 - s) = omega arith in e) in
    ap (sum_to w) end ∙ sum_split w s (get_or rings count 0 - s) ∙ ap (λ z. z +ℤ sum_to (λ i. w (s + i)) (get_or rings count 0 - s)) (sum_rings rings w count (λ r l. rise r (omega arith)))
