-- The turns of the bisection, on lists alone. Assumes nothing.
use mathlib.Core.Path.{◌≡◌, refl, sym, ap, ◌∙◌}
use mathlib.Core.Logic.{◌⊎◌, inl, inr}
use mathlib.Core.List.{List}
use Prim.Native.Nat.{ℕ, suc, ◌+◌, ◌-◌, ◌*◌, ◌/◌, ◌^◌, ◌≤◌, ◌<◌}
use native.Mathlib.Nat.{two-pow-succ, mul-le-mul_right}
use native.Mathlib.Decide.{dec_lt}
use native.Mathlib.Omega.{arith}
use lib.ListN.{length, get_or}
use Rattle.cut.specs.Shuffle.{Shuffled}
use Rattle.cut.specs.Shuffle.Shuffled.{same}
use Rattle.cut.specs.Selection.{Each, Among, Wider, Spans, Parted, Ordered, midway, Bisected, Selected}
use Rattle.cut.specs.Selection.Bisected.{spanned, lower, upper}
use Rattle.cut.proofs.Shuffles.{shuffled_length, shuffled_each, shuffled_before, shuffled_after, shuffled_trans, shuffled_wider}
use Rattle.cut.proofs.Partings.{each_more}

-- the loop's state: the window is [p, q), its numbers lie in [a, b], all before it are at most a, and all after it at least b
pub record Selecting (lo m hi : ℕ) (xs ys : List ℕ) (p q a b : ℕ) : Type 0 where
  pub from : lo ≤ p
  pub left : p ≤ m
  pub right : m ≤ q
  pub to : q ≤ hi
  pub order : a ≤ b
  pub kept : length ys ≡ length xs
  pub moved : Shuffled lo hi xs ys
  pub below : Each (λ e. e ≤ a) lo p ys
  pub least : Each (λ e. a ≤ e) p q ys
  pub most : Each (λ e. e ≤ b) p q ys
  pub above : Each (λ e. b ≤ e) q hi ys

-- a round halves the values that are left
pub narrow : (r d : ℕ) → r < 64 → d < 2 ^ (64 - r) → d / 2 < 2 ^ (64 - (r + 1))
narrow r d h l =
    let e : 64 - r ≡ suc (64 - (r + 1)) = omega arith in
    let w : 2 ^ (64 - r) ≡ 2 ^ (64 - (r + 1)) + 2 ^ (64 - (r + 1)) = ap (λ (k : ℕ). 2 ^ k) e ∙ two-pow-succ (64 - (r + 1)) in
    omega arith

-- what holds of each place of two windows that meet
pub each_join : (P : ℕ → Type 0) (lo mid hi : ℕ) (xs : List ℕ) → Each P lo mid xs → Each P mid hi xs → Each P lo hi xs
each_join P lo mid hi xs f g k l u = go (dec_lt k mid)
  where
    go : Dec (k < mid) → P (get_or xs k 0)
    go (yes h) = f k l h
    go (no h) = g k (omega arith) u

module _ (lo m hi : ℕ) (xs : List ℕ) where
  pub selecting_start : (a b : ℕ) → lo < hi → lo ≤ m → m ≤ hi → Spans xs lo hi a b → Selecting lo m hi xs xs lo hi a b
  selecting_start a b some from to f = record {
    from = omega arith;
    left = from;
    right = to;
    to = omega arith;
    order = omega (arith, f.from lo (omega arith) some, f.to lo (omega arith) some);
    kept = refl;
    moved = same;
    below = λ k l u. absurd (omega arith);
    least = f.from;
    most = f.to;
    above = λ k l u. absurd (omega arith);
  }

  module _ (ys zs : List ℕ) (p q a b v s : ℕ) (S : Selecting lo m hi xs ys p q a b) (P : Parted p q v ys zs s) (w : hi ≤ length xs) (av : a ≤ v) (vb : v < b) where
    -- the frame of the partition, in the terms of the bisection
    moved' : Shuffled lo hi xs zs
    moved' = shuffled_trans S.moved (shuffled_wider lo hi S.from S.to (omega arith) P.moved)

    kept' : length zs ≡ length xs
    kept' = shuffled_length P.moved ∙ S.kept

    before' : (Q : ℕ → Type 0) → Each Q lo p ys → Each Q lo p zs
    before' Q f k l u = rw (shuffled_before P.moved k u) (f k l u)

    after' : (Q : ℕ → Type 0) → Each Q q hi ys → Each Q q hi zs
    after' Q f k l u = rw (shuffled_after P.moved k l) (f k l u)

    pub selecting_left : m ≤ s → Selecting lo m hi xs zs p s a v
    selecting_left h = record {
      from = S.from;
      left = S.left;
      right = h;
      to = omega arith;
      order = av;
      kept = kept';
      moved = moved';
      below = before' (λ e. e ≤ a) S.below;
      least = λ k l u. shuffled_each (λ e. a ≤ e) P.moved S.least k l (omega arith);
      most = P.low;
      above = each_join (λ e. v ≤ e) s q hi zs (λ k l u. omega (arith, P.high k l u)) (after' (λ e. v ≤ e) (λ k l u. omega (arith, S.above k l u)));
    }

    pub selecting_right : s < m → Selecting lo m hi xs zs s q (v + 1) b
    selecting_right h = record {
      from = omega arith;
      left = omega arith;
      right = S.right;
      to = S.to;
      order = omega arith;
      kept = kept';
      moved = moved';
      below = each_join (λ e. e ≤ v + 1) lo p s zs (before' (λ e. e ≤ v + 1) (λ k l u. omega (arith, S.below k l u))) (λ k l u. omega (arith, P.low k l u));
      least = λ k l u. omega (arith, P.high k l u);
      most = λ k l u. shuffled_each (λ e. e ≤ b) P.moved S.most k (omega arith) u;
      above = after' (λ e. b ≤ e) S.above;
    }

  module _ (ys : List ℕ) (p q a b : ℕ) (S : Selecting lo m hi xs ys p q a b) where
    -- t parts the numbers
    parts : (t : ℕ) → Each (λ e. e ≤ t) lo m ys → Each (λ e. t ≤ e) m hi ys → Ordered lo m hi ys
    parts t f g j k lj jm mk kh = omega (arith, f j lj jm, g k mk kh)

    at_most : Each (λ e. e ≤ b) lo q ys
    at_most = each_join (λ e. e ≤ b) lo p q ys (λ k l u. omega (arith, S.below k l u)) S.most

    at_least : Each (λ e. a ≤ e) p hi ys
    at_least = each_join (λ e. a ≤ e) p q hi ys S.least (λ k l u. omega (arith, S.above k l u))

    -- the three ways to stop
    pub selected_low : m ≤ p → Ordered lo m hi ys
    selected_low h = parts a (λ k l u. S.below k l (omega arith)) (λ k l u. at_least k (omega arith) u)

    pub selected_high : q ≤ m → Ordered lo m hi ys
    selected_high h = parts b (λ k l u. at_most k l (omega arith)) (λ k l u. S.above k (omega arith) u)

    pub selected_one : b ≤ a → Ordered lo m hi ys
    selected_one h = parts a (λ k l u. omega (arith, at_most k l (omega arith))) (λ k l u. at_least k (omega arith) u)

-- ---- the least and the greatest so far

pub spans_more : (xs : List ℕ) (lo i a b a' b' : ℕ) → lo ≤ i → Spans xs lo i a b → Wider a b (get_or xs i 0) a' b' → Spans xs lo (i + 1) a' b'
spans_more xs lo i a b a' b' l S W =
    record {
      from = each_more (λ x. a' ≤ x) lo i xs (λ k f u. omega (arith, S.from k f u, W.lower)) (omega (arith, W.lower));
      to = each_more (λ x. x ≤ b') lo i xs (λ k f u. omega (arith, S.to k f u, W.higher)) (omega (arith, W.higher));
      least_among = least (dec_lt (get_or xs i 0) a);
      greatest_among = greatest (dec_lt b (get_or xs i 0));
    }
  where
    -- the one that was, or the new one
    among : (v v' : ℕ) → Among v lo i xs → v' ≡ v → Among v' lo (i + 1) xs
    among v v' t is = (t.0, t.1, omega (arith, t.2), t.3 ∙ sym is)

    last : (v' : ℕ) → v' ≡ get_or xs i 0 → Among v' lo (i + 1) xs
    last v' is = (i, l, omega arith, sym is)

    least : Dec (get_or xs i 0 < a) → Among a' lo (i + 1) xs
    least (yes h) = last a' (omega (arith, W.lower))
    least (no h) = among a a' S.least_among (omega (arith, W.lower))

    greatest : Dec (b < get_or xs i 0) → Among b' lo (i + 1) xs
    greatest (yes h) = last b' (omega (arith, W.higher))
    greatest (no h) = among b b' S.greatest_among (omega (arith, W.higher))

-- ---- the rounds: their number, what is left of the values, and how many numbers were read
pub record Rounds (lo m hi : ℕ) (xs ys : List ℕ) (p q a b reads round : ℕ) : Type 0 where
  pub state : Selecting lo m hi xs ys p q a b
  pub bisected : Bisected lo m hi xs ys p q a b round reads
  pub few : round ≤ 64
  pub left : b - a < 2 ^ (64 - round)
  pub read : reads ≤ (round + 1) * (hi - lo)

module _ (lo m hi : ℕ) (xs : List ℕ) where
  pub rounds_start : (a b : ℕ) → lo < hi → lo ≤ m → m ≤ hi → b < 2 ^ 64 → Spans xs lo hi a b → Rounds lo m hi xs xs lo hi a b (hi - lo) 0
  rounds_start a b some from to fits S = record {
    state = selecting_start lo m hi xs a b some from to S;
    bisected = spanned S;
    few = omega arith;
    left = omega arith;
    read = omega arith;
  }

module _ (lo m hi : ℕ) (xs ys : List ℕ) (p q a b reads round : ℕ) (R : Rounds lo m hi xs ys p q a b reads round) where
  pub reads_bounded : reads ≤ 65 * (hi - lo)
  reads_bounded = let most : round + 1 ≤ 65 = omega (arith, R.few) in omega (arith, R.read, mul-le-mul_right (hi - lo) most)

  selected : (m ≤ p) ⊎ (q ≤ m) ⊎ (b ≤ a) → Ordered lo m hi ys → Selected lo m hi xs ys reads
  selected done ordered = record {
    moved = R.state.moved;
    ordered = ordered;
    counted = record {
      left = p;
      right = q;
      least = a;
      greatest = b;
      partitions = round;
      bisected = R.bisected;
      rounds = R.few;
      done = done;
    };
    few = reads_bounded;
  }

  -- the four ways to stop
  pub stopped_low : m ≤ p → Selected lo m hi xs ys reads
  stopped_low h = selected (inl h) (selected_low lo m hi xs ys p q a b R.state h)

  pub stopped_high : q ≤ m → Selected lo m hi xs ys reads
  stopped_high h = selected (inr (inl h)) (selected_high lo m hi xs ys p q a b R.state h)

  pub stopped_one : b ≤ a → Selected lo m hi xs ys reads
  stopped_one h = selected (inr (inr h)) (selected_one lo m hi xs ys p q a b R.state h)

  pub stopped_last : 64 ≤ round → Selected lo m hi xs ys reads
  stopped_last h =
      let e : round ≡ 64 = omega (arith, R.few) in
      let none : b - a < 1 = rw e at R.left in
      stopped_one (omega arith)

  module _ (zs : List ℕ) (s : ℕ) (P : Parted p q (midway a b) ys zs s) (w : hi ≤ length xs) (more : round < 64) (before : p < m) (after : m < q) (some : a < b) where
    read_more : reads + (q - p) ≤ (round + 1 + 1) * (hi - lo)
    read_more = omega (arith, R.read, R.state.from, R.state.left, R.state.right, R.state.to)

    half : (b - a) / 2 < 2 ^ (64 - (round + 1))
    half = narrow round (b - a) more R.left

    pub rounds_left : m ≤ s → Rounds lo m hi xs zs p s a (midway a b) (reads + (q - p)) (round + 1)
    rounds_left h = record {
      state = selecting_left lo m hi xs ys zs p q a b (midway a b) s R.state P w (omega arith) (omega arith) h;
      bisected = lower R.bisected before after some P h;
      few = omega arith;
      left = omega (arith, half);
      read = read_more;
    }

    pub rounds_right : s < m → Rounds lo m hi xs zs s q (midway a b + 1) b (reads + (q - p)) (round + 1)
    rounds_right h = record {
      state = selecting_right lo m hi xs ys zs p q a b (midway a b) s R.state P w (omega arith) (omega arith) h;
      bisected = upper R.bisected before after some P h;
      few = omega arith;
      left = omega (arith, half);
      read = read_more;
    }
