-- N(n): level by level, how many there are at most, and from where on so many. Assumes nothing.
use mathlib.Core.Path.{◌≡◌, ◌∙◌, ap}
use Prim.Native.Nat.{ℕ, zero, suc, ◌+◌, ◌-◌, ◌*◌, ◌/◌, ◌%◌, ◌^◌, ◌≤◌, ◌<◌}
use native.Mathlib.Decide.{dec_lt}
use native.Mathlib.Nat.{two-pow-succ, mul-le-mul_right}
use native.Mathlib.Omega.{arith}
use Rattle.rules.specs.Nodes.{node_count}
use Rattle.rules.proofs.Nodes.{node_count_leaf, node_count_cut}

pub node_count_some : (n : ℕ) → 0 < node_count n
node_count_some n = go (dec_lt 8 n)
  where
    go : Dec (8 < n) → 0 < node_count n
    go (yes h) = omega (arith, node_count_cut n h)
    go (no h) = omega (arith, node_count_leaf n (omega arith))

-- a cut node has two below it
pub node_count_three : (n : ℕ) → 8 < n → 3 ≤ node_count n
node_count_three n h = omega (arith, node_count_cut n h, node_count_some (n / 2), node_count_some (n - n / 2))

-- ---- bounds
pub node_count_half : (n : ℕ) → 2 * node_count n ≤ 2 + (n - 4)
node_count_half n = go (suc n) n (omega arith)
  where
    go : (bound n : ℕ) → n < bound → 2 * node_count n ≤ 2 + (n - 4)
    go zero n h = absurd (omega arith)
    go (suc bound) n h = split (dec_lt 8 n) (go bound)
      where
        split : Dec (8 < n) → ((m : ℕ) → m < bound → 2 * node_count m ≤ 2 + (m - 4)) → 2 * node_count n ≤ 2 + (n - 4)
        split (yes b) ih = let l = ih (n / 2) (omega arith) in let r = ih (n - n / 2) (omega arith) in omega (arith, node_count_cut n b)
        split (no b) ih = omega (arith, node_count_leaf n (omega arith))

-- 16 · 2^k edges have at most 2^(k + 2) − 1 nodes
pub node_count_within : (k n : ℕ) → n ≤ 16 * 2 ^ k → node_count n + 1 ≤ 4 * 2 ^ k
node_count_within zero n h = split (dec_lt 8 n)
  where
    split : Dec (8 < n) → node_count n + 1 ≤ 4
    split (yes b) = omega (arith, node_count_cut n b, node_count_leaf (n / 2) (omega arith), node_count_leaf (n - n / 2) (omega arith))
    split (no b) = omega (arith, node_count_leaf n (omega arith))
node_count_within (suc k) n h = split (dec_lt 8 n) (node_count_within k)
  where
    split : Dec (8 < n) → ((m : ℕ) → m ≤ 16 * 2 ^ k → node_count m + 1 ≤ 4 * 2 ^ k) → node_count n + 1 ≤ 4 * 2 ^ suc k
    split (yes b) ih = let l = ih (n / 2) (omega (arith, two-pow-succ k)) in let r = ih (n - n / 2) (omega (arith, two-pow-succ k)) in omega (arith, node_count_cut n b, two-pow-succ k)
    split (no b) ih = omega (arith, node_count_leaf n (omega arith), two-pow-succ k, ih 0 (omega arith), node_count_some 0)

-- from 9 · 2^k on they have so many
reached : (k n : ℕ) → 9 * 2 ^ k ≤ n → n ≤ 16 * 2 ^ k → node_count n + 1 ≡ 4 * 2 ^ k
reached zero n l h = omega (arith, node_count_cut n (omega arith), node_count_leaf (n / 2) (omega arith), node_count_leaf (n - n / 2) (omega arith))
reached (suc k) n l h =
    let p = two-pow-succ k in
    let a = reached k (n / 2) (omega arith) (omega arith) in
    let b = reached k (n - n / 2) (omega arith) (omega arith) in
    let some : 1 ≤ 2 ^ k = omega (arith, a, node_count_some (n / 2)) in
    omega (arith, node_count_cut n (omega arith))

-- and below that fewer
fewer : (k n : ℕ) → n < 9 * 2 ^ k → node_count n + 1 < 4 * 2 ^ k
fewer zero n h = omega (arith, node_count_leaf n (omega arith))
fewer (suc k) n h = split (dec_lt 8 n) (fewer k (n / 2) (omega (arith, two-pow-succ k)))
  where
    split : Dec (8 < n) → node_count (n / 2) + 1 < 4 * 2 ^ k → node_count n + 1 < 4 * 2 ^ suc k
    split (yes b) ih = omega (arith, node_count_cut n b, node_count_within k (n - n / 2) (omega (arith, two-pow-succ k)), two-pow-succ k)
    split (no b) ih = omega (arith, node_count_leaf n (omega arith), two-pow-succ k, node_count_some (n / 2))

-- up to the ceiling of 1,048,576 edges there are at most 262,143 nodes, and so many exactly from 589,824 edges on
pub node_count_most : (n : ℕ) → n ≤ 1048576 → node_count n ≤ 262143
node_count_most n h = omega (arith, node_count_within 16 n h)

pub node_count_reached : (n : ℕ) → 589824 ≤ n → n ≤ 1048576 → node_count n ≡ 262143
node_count_reached n l h = omega (arith, reached 16 n l h)

pub node_count_fewer : (n : ℕ) → n < 589824 → node_count n < 262143
node_count_fewer n h = omega (arith, fewer 16 n h)

nine : node_count 9 ≡ 3
nine = omega (arith, node_count_cut 9 (omega arith), node_count_leaf 4 (omega arith), node_count_leaf 5 (omega arith))

-- ---- level by level: of the nodes of a level so many have `size` edges and so many one more
pub record Level (n above size lesser greater : ℕ) : Type 0 where
  pub counted : node_count n ≡ above + lesser * node_count size + greater * node_count (size + 1)
  pub all : lesser * size + greater * (size + 1) ≡ n

module _ (n above size lesser greater : ℕ) (L : Level n above size lesser greater) where
  -- the numbers stay small
  pub level_few : above + lesser + greater ≤ node_count n
  level_few = omega (arith, L.counted, mul-le-mul_right lesser (node_count_some size), mul-le-mul_right greater (node_count_some (size + 1)))

  pub level_small : 8 < size → 9 * (lesser + greater) ≤ n
  level_small h = let g : 9 ≤ size + 1 = omega arith in omega (arith, L.all, mul-le-mul_right lesser h, mul-le-mul_right greater g)

  -- the next level
  module _ (cut : 8 < size) where
    split_size : node_count size ≡ 1 + node_count (size / 2) + node_count (size - size / 2)
    split_size = node_count_cut size cut

    split_more : node_count (size + 1) ≡ 1 + node_count ((size + 1) / 2) + node_count (size + 1 - (size + 1) / 2)
    split_more = node_count_cut (size + 1) (omega arith)

    pub level_even : size % 2 ≡ 0 → Level n (above + (lesser + greater)) (size / 2) (2 * lesser + greater) greater
    level_even even =
        let half : size ≡ 2 * (size / 2) = omega arith in
        let a = ap node_count (let e : size - size / 2 ≡ size / 2 = omega arith in e) in
        let b = ap node_count (let e : (size + 1) / 2 ≡ size / 2 = omega arith in e) in
        let c = ap node_count (let e : size + 1 - (size + 1) / 2 ≡ size / 2 + 1 = omega arith in e) in
        let l : node_count size ≡ 1 + 2 * node_count (size / 2) = omega (arith, split_size) in
        let g : node_count (size + 1) ≡ 1 + node_count (size / 2) + node_count (size / 2 + 1) = omega (arith, split_more) in
        record {
          counted = omega (arith, L.counted, ap (λ x. lesser * x) l, ap (λ x. greater * x) g);
          all = omega (arith, L.all, ap (λ x. lesser * x) half, ap (λ x. greater * x) half);
        }

    pub level_odd : (size % 2 ≡ 0 → ⊥) → Level n (above + (lesser + greater)) (size / 2) lesser (lesser + 2 * greater)
    level_odd odd =
        let half : size ≡ 2 * (size / 2) + 1 = omega arith in
        let a = ap node_count (let e : size - size / 2 ≡ size / 2 + 1 = omega arith in e) in
        let b = ap node_count (let e : (size + 1) / 2 ≡ size / 2 + 1 = omega arith in e) in
        let c = ap node_count (let e : size + 1 - (size + 1) / 2 ≡ size / 2 + 1 = omega arith in e) in
        let l : node_count size ≡ 1 + node_count (size / 2) + node_count (size / 2 + 1) = omega (arith, split_size) in
        let g : node_count (size + 1) ≡ 1 + 2 * node_count (size / 2 + 1) = omega (arith, split_more) in
        record {
          counted = omega (arith, L.counted, ap (λ x. lesser * x) l, ap (λ x. greater * x) g);
          all = omega (arith, L.all, ap (λ x. lesser * x) half, ap (λ x. greater * x) half);
        }

  -- the last level: leaves, and nodes of 9 edges with two leaves each
  pub level_nine : size ≡ 8 → above + lesser + 3 * greater ≡ node_count n
  level_nine e =
      let l : node_count size ≡ 1 = node_count_leaf size (omega arith) in
      let g : node_count (size + 1) ≡ 3 = ap node_count (let f : size + 1 ≡ 9 = omega arith in f) ∙ nine in
      omega (arith, L.counted, ap (λ x. lesser * x) l, ap (λ x. greater * x) g)

  pub level_last : size < 8 → above + lesser + greater ≡ node_count n
  level_last h =
      let l : node_count size ≡ 1 = node_count_leaf size (omega arith) in
      let g : node_count (size + 1) ≡ 1 = node_count_leaf (size + 1) (omega arith) in
      omega (arith, L.counted, ap (λ x. lesser * x) l, ap (λ x. greater * x) g)

pub level_first : (n : ℕ) → Level n 0 n 1 0
level_first n = record { counted = omega arith; all = omega arith }
