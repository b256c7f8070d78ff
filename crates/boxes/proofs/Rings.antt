-- Rising ends: each corner is in one ring, and its next corner is the one that the ring's two ends give. Assumes nothing.
use mathlib.Core.Path.{◌≡◌, refl, sym, ap, ◌∙◌}
use mathlib.Core.Bool.{cond, true}
use mathlib.Core.List.{List, [], ◌∷◌}
use Prim.Native.Nat.{ℕ, zero, suc, ◌+◌, ◌-◌, ◌≤◌, ◌<◌}
use native.Mathlib.Numerals.{add-one}
use native.Mathlib.Decide.{ℕ_discrete, dec_lt}
use native.Mathlib.Omega.{arith}
use borrow.Author.Tests.{lt-ltb, le-ltb, leb-true, ltb-true}
use lib.Dec.{leb, ltb}
use lib.ListN.{length, get_or}
use Rattle.integers.proofs.Tests.{and_true}
use Rattle.boxes.specs.Rings.{start_of, next_in, next_from, next_corner, in_ring, RingAt, RingEnds}

pub start_zero : (rings : List ℕ) → start_of rings 0 ≡ 0
unfolding start_of
start_zero rings = refl

pub start_suc : (rings : List ℕ) (r : ℕ) → start_of rings (r + 1) ≡ get_or rings r 0
unfolding start_of
start_suc rings r = ap (start_of rings) (add-one r)

start_next : (rings : List ℕ) (r : ℕ) → start_of rings (suc r) ≡ get_or rings r 0
unfolding start_of
start_next rings r = refl

pub start_pred : (rings : List ℕ) (r : ℕ) → 0 < r → start_of rings r ≡ get_or rings (r - 1) 0
unfolding start_of
start_pred rings zero h = absurd (omega arith)
start_pred rings (suc r) h = let e : r ≡ suc r - 1 = omega arith in ap (λ (k : ℕ). get_or rings k 0) e

-- a test passed
pub in_ring_lem : (rings : List ℕ) (count e r : ℕ) → r < count → in_ring rings r e ≡ true → RingAt rings count e r
in_ring_lem rings count e r h t =
    let both = and_true (leb (start_of rings r) e) (ltb e (get_or rings r 0)) t in
    record { ring = h; from = leb-true (start_of rings r) e both.0; to = ltb-true e (get_or rings r 0) both.1 }

-- in a ring: the corner after e, by e's place
pub next_within : (start end e : ℕ) → e + 1 < end → next_in start end e ≡ e + 1
next_within start end e h = ap (λ b. cond b (e + 1) start) (lt-ltb (e + 1) end h)

pub next_last : (start end e : ℕ) → end ≤ e + 1 → next_in start end e ≡ start
next_last start end e h = ap (λ b. cond b (e + 1) start) (le-ltb (e + 1) end h)

-- where ring r starts, if the first starts at `start`
start_from : ℕ → List ℕ → ℕ → ℕ
start_from start rings zero = start
start_from start rings (suc r) = get_or rings r 0

start_from_lem : (rings : List ℕ) (r : ℕ) → start_from 0 rings r ≡ start_of rings r
unfolding start_from start_of
start_from_lem rings zero = refl
start_from_lem rings (suc r) = refl

next_from_lem : (start : ℕ) (rings : List ℕ) (e r : ℕ) → r < length rings → ((q : ℕ) → q < r → get_or rings q 0 ≤ e) → e < get_or rings r 0 → next_from start rings e ≡ next_in (start_from start rings r) (get_or rings r 0) e
unfolding next_from start_from
next_from_lem start [] e r l before h = absurd (omega arith)
next_from_lem start (end ∷ rings) e zero l before h = ap (λ b. cond b (next_in start end e) (next_from end rings e)) (lt-ltb e end h)
next_from_lem start (end ∷ rings) e (suc zero) l before h =
    ap (λ b. cond b (next_in start end e) (next_from end rings e)) (le-ltb e end (before 0 (omega arith)))
    ∙ next_from_lem end rings e zero (omega arith) (λ q u. absurd (omega arith)) h
next_from_lem start (end ∷ rings) e (suc (suc r)) l before h =
    ap (λ b. cond b (next_in start end e) (next_from end rings e)) (le-ltb e end (before 0 (omega arith)))
    ∙ next_from_lem end rings e (suc r) (omega arith) (λ q u. before (suc q) (omega arith)) h

module _ (n count : ℕ) (rings : List ℕ) (R : RingEnds n count rings) where
  -- a ring ends before a later one starts
  apart : (r s : ℕ) → r < s → s ≤ count → get_or rings r 0 ≤ start_of rings s
  unfolding start_of
  apart r zero h l = absurd (omega arith)
  apart r (suc s) h l = go (ℕ_discrete r s) (λ a. apart r s a (omega arith))
    where
      go : Dec (r ≡ s) → (r < s → get_or rings r 0 ≤ start_of rings s) → get_or rings r 0 ≤ get_or rings s 0
      go (yes e) ih = rw e (omega arith)
      go (no d) ih = let a = ih (omega arith) in omega (arith, R.rise s (omega arith))

  -- a corner is in one ring only
  pub one_ring : (e r s : ℕ) → RingAt rings count e r → RingAt rings count e s → r ≡ s
  one_ring e r s A B = go (dec_lt r s) (dec_lt s r)
    where
      go : Dec (r < s) → Dec (s < r) → r ≡ s
      go (yes a) d = absurd (omega (arith, apart r s a (let b = B.ring in omega arith)))
      go (no a) (yes b) = absurd (omega (arith, apart s r b (let c = A.ring in omega arith)))
      go (no a) (no b) = omega arith

  -- and each corner is in one
  pub ring_found : (e : ℕ) → e < n → (r : ℕ) × RingAt rings count e r
  ring_found e h = go count (omega arith) (omega (arith, R.all))
    where
      go : (c : ℕ) → c ≤ count → e < start_of rings c → (r : ℕ) × RingAt rings count e r
      go zero l u = absurd (omega (arith, start_zero rings))
      go (suc c) l u = split (dec_lt e (start_of rings c)) (go c (omega arith))
        where
          split : Dec (e < start_of rings c) → (e < start_of rings c → (r : ℕ) × RingAt rings count e r) → (r : ℕ) × RingAt rings count e r
          split (yes a) ih = ih a
          split (no a) ih = (c, record { ring = l; from = omega arith; to = omega (arith, start_next rings c) })

  -- the last ring ends at n
  last_end : 0 < count → get_or rings (count - 1) 0 ≡ n
  last_end h = sym (start_pred rings count h) ∙ R.all

  some_ring : (e : ℕ) → e < n → 0 < count
  some_ring e h = go (ℕ_discrete count 0)
    where
      go : Dec (count ≡ 0) → 0 < count
      go (yes z) = absurd (omega (arith, ap (start_of rings) z, start_zero rings, R.all))
      go (no d) = omega arith

  -- what the search for the ring of a corner asks
  pub searchable : (e : ℕ) → e < n → (0 < count) × (count ≤ length rings) × (e < get_or rings (count - 1) 0)
  searchable e h = let some = some_ring e h in (some, R.reach, omega (arith, last_end some))

  module _ (e r : ℕ) (A : RingAt rings count e r) where
    pub ring_inside : e < n
    ring_inside = omega (arith, apart r count A.ring (omega arith), R.all, A.to)

    pub next_of_ring : next_corner rings e ≡ next_in (start_of rings r) (get_or rings r 0) e
    unfolding next_corner
    next_of_ring = next_from_lem 0 rings e r (omega (arith, A.ring, R.reach)) (λ q u. omega (arith, apart q r u (let b = A.ring in omega arith), A.from)) A.to ∙ ap (λ s. next_in s (get_or rings r 0) e) (start_from_lem rings r)

    -- the next corner is in the same ring, and so one of the n
    pub next_same_ring : RingAt rings count (next_corner rings e) r
    next_same_ring = go (dec_lt (e + 1) (get_or rings r 0))
      where
        go : Dec (e + 1 < get_or rings r 0) → RingAt rings count (next_corner rings e) r
        go (yes a) = let x = next_of_ring ∙ next_within (start_of rings r) (get_or rings r 0) e a in record { ring = A.ring; from = omega (arith, A.from); to = omega arith }
        go (no a) = let x = next_of_ring ∙ next_last (start_of rings r) (get_or rings r 0) e (omega arith) in record { ring = A.ring; from = omega arith; to = omega (arith, A.from, A.to) }

  pub next_inside : (e : ℕ) → e < n → next_corner rings e < n
  next_inside e h = let found = ring_found e h in ring_inside (next_corner rings e) found.0 (next_same_ring e found.0 found.1)
