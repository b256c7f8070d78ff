-- The turns of a partition, on lists alone. Assumes nothing.
use mathlib.Core.Path.{◌≡◌}
use mathlib.Core.List.{List}
use Prim.Native.Nat.{ℕ, ◌+◌, ◌≤◌, ◌<◌}
use native.Mathlib.Decide.{ℕ_discrete}
use native.Mathlib.Omega.{arith}
use lib.ListN.{length, get_or}
use Rattle.cut.specs.Shuffle.{swapped, Shuffled}
use Rattle.cut.specs.Shuffle.Shuffled.{same, more}
use Rattle.cut.specs.Selection.{Each, Parted}
use Rattle.cut.proofs.Shuffles.{swapped_first, swapped_second, swapped_other, shuffled_length}

-- the loop's state: [lo, s) is at most v, [s, i) is above v, [i, hi) is still to be looked at
pub record Parting (lo hi v : ℕ) (xs ys : List ℕ) (s i : ℕ) : Type 0 where
  pub from : lo ≤ s
  pub mid : s ≤ i
  pub to : i ≤ hi
  pub moved : Shuffled lo hi xs ys
  pub low : Each (λ e. e ≤ v) lo s ys
  pub high : Each (λ e. v < e) s i ys

-- one more place: what holds of each place below i and of what stands at i
pub each_more : (P : ℕ → Type 0) (lo i : ℕ) (xs : List ℕ) → Each P lo i xs → P (get_or xs i 0) → Each P lo (i + 1) xs
each_more P lo i xs h p k l u = go (ℕ_discrete k i)
  where
    go : Dec (k ≡ i) → P (get_or xs k 0)
    go (yes e) = rw e p
    go (no n) = h k l (omega arith)

module _ (lo hi v : ℕ) (xs ys : List ℕ) where
  pub parting_start : lo ≤ hi → Parting lo hi v xs xs lo lo
  parting_start h = record {
    from = omega arith;
    mid = omega arith;
    to = h;
    moved = same;
    low = λ k l u. absurd (omega arith);
    high = λ k l u. absurd (omega arith);
  }

  -- a turn: the number at i changes places with the first one above v
  module _ (s i : ℕ) (p : Parting lo hi v xs ys s i) (h : i < hi) (w : hi ≤ length xs) where
    s_in : s < length ys
    s_in = omega (arith, shuffled_length p.moved)

    i_in : i < length ys
    i_in = omega (arith, shuffled_length p.moved)

    moved_on : Shuffled lo hi xs (swapped s i ys)
    moved_on = more {ys = ys} s i (omega arith) (omega arith) (omega arith) (omega arith) (omega (arith, shuffled_length p.moved)) p.moved

    below : Each (λ x. x ≤ v) lo s (swapped s i ys)
    below k l u = rw (swapped_other s i ys k (omega arith) (omega arith)) (p.low k l u)

    -- past s, what stands up to i is above v
    above : (k : ℕ) → s + 1 ≤ k → k < i + 1 → Dec (k ≡ i) → v < get_or (swapped s i ys) k 0
    above k l u (yes q) = rw (q, swapped_second s i ys i_in) (p.high s (omega arith) (omega arith))
    above k l u (no n) = rw (swapped_other s i ys k (omega arith) n) (p.high k (omega arith) (omega arith))

    -- it is above v: those in front stay
    pub parting_out : v < get_or ys i 0 → Parting lo hi v xs (swapped s i ys) s (i + 1)
    parting_out e = record {
      from = p.from;
      mid = omega arith;
      to = omega arith;
      moved = moved_on;
      low = below;
      high = λ k l u. go k l u (ℕ_discrete k s);
    }
      where
        go : (k : ℕ) → s ≤ k → k < i + 1 → Dec (k ≡ s) → v < get_or (swapped s i ys) k 0
        go k l u (yes q) = rw (q, swapped_first s i ys s_in i_in) e
        go k l u (no n) = above k (omega arith) u (ℕ_discrete k i)

    -- it is at most v: there is one more in front
    pub parting_in : get_or ys i 0 ≤ v → Parting lo hi v xs (swapped s i ys) (s + 1) (i + 1)
    parting_in e = record {
      from = omega arith;
      mid = omega arith;
      to = omega arith;
      moved = moved_on;
      low = each_more (λ x. x ≤ v) lo s (swapped s i ys) below (rw (swapped_first s i ys s_in i_in) e);
      high = λ k l u. above k l u (ℕ_discrete k i);
    }

  pub parting_done : (s i : ℕ) → Parting lo hi v xs ys s i → hi ≤ i → Parted lo hi v xs ys s
  parting_done s i p h = record {
    from = p.from;
    to = omega arith;
    moved = p.moved;
    low = p.low;
    high = λ k l u. p.high k l (omega arith);
  }
