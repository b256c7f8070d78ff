-- The reads of a build: the loop's state as far as it concerns them, and how many the edges of the cut nodes allow. Assumes nothing.
use mathlib.Core.Path.{◌≡◌, refl, sym, ap, ◌∙◌}
use mathlib.Core.Bool.{cond}
use mathlib.Core.List.{List}
use Prim.Native.Nat.{ℕ, zero, suc, ◌+◌, ◌-◌, ◌*◌, ◌/◌, ◌^◌, ◌≤◌, ◌<◌}
use native.Mathlib.Nat.{two-pow-succ}
use native.Mathlib.Numerals.{add-one, add-two}
use native.Mathlib.Decide.{dec_lt}
use native.Mathlib.Omega.{arith}
use borrow.Author.Tests.{le-leb, lt-leb}
use lib.IntN.{ℤ}
use lib.ListN.{get_or}
use Rattle.geom.specs.declared.Rect.{Rect}
use Rattle.rules.specs.Nodes.{node_count}
use Rattle.index.specs.Parts.{count_at, Halves, Laid, cut_size, cut_edges}
use Rattle.index.specs.Parts.Laid.{leaf, node}
use Rattle.index.specs.Build.{Two, NodeCut, Cuts}
use Rattle.index.specs.Build.Cuts.{uncut, then}
use Rattle.index.proofs.Counts.{node_count_some}
use Rattle.index.proofs.Growth.{Grows}
use Rattle.index.proofs.Places.{laid_grows}
use Rattle.index.proofs.Shaping.{Shaping, owed, owed_none, owed_one, owed_two, owed_pop, owed_rest, left_on, right_on, taken_below}

-- ---- the edges of the cut nodes
pub cut_size_leaf : (m : ℕ) → m ≤ 8 → cut_size m ≡ 0
unfolding cut_size
cut_size_leaf m h = ap (λ b. cond b 0 m) (le-leb m 8 h)

pub cut_size_cut : (m : ℕ) → 8 < m → cut_size m ≡ m
unfolding cut_size
cut_size_cut m h = ap (λ b. cond b 0 m) (lt-leb m 8 h)

cut_size_most : (m : ℕ) → cut_size m ≤ m
cut_size_most m = go (dec_lt 8 m)
  where
    go : Dec (8 < m) → cut_size m ≤ m
    go (yes h) = omega (arith, cut_size_cut m h)
    go (no h) = omega (arith, cut_size_leaf m (omega arith))

cut_edges_none : (parts : List (List ℕ)) → cut_edges parts 0 ≡ 0
unfolding cut_edges
cut_edges_none parts = refl

cut_edges_one : (parts : List (List ℕ)) (k : ℕ) → cut_edges parts (k + 1) ≡ cut_edges parts k + cut_size (count_at parts k)
unfolding cut_edges
cut_edges_one parts k = rw add-one

cut_edges_two : (parts : List (List ℕ)) (k : ℕ) → cut_edges parts (k + 2) ≡ cut_edges parts k + cut_size (count_at parts k) + cut_size (count_at parts (k + 1))
unfolding cut_edges
cut_edges_two parts k = rw (add-two, add-one)

cut_edges_same : (parts parts' : List (List ℕ)) (k : ℕ) → ((p : ℕ) → p < k → count_at parts' p ≡ count_at parts p) → cut_edges parts' k ≡ cut_edges parts k
unfolding cut_edges
cut_edges_same parts parts' zero f = refl
cut_edges_same parts parts' (suc k) f =
    let e = ap cut_size (f k (omega arith)) in
    let ih = cut_edges_same parts parts' k (λ p l. f p (omega arith)) in
    omega arith

-- none has more than so many
cut_edges_most : (parts : List (List ℕ)) (most k : ℕ) → ((p : ℕ) → p < k → count_at parts p ≤ most) → cut_edges parts k ≤ k * most
unfolding cut_edges
cut_edges_most parts most zero f = omega arith
cut_edges_most parts most (suc k) f = omega (arith, cut_edges_most parts most k (λ p l. f p (omega arith)), cut_size_most (count_at parts k), f k (omega arith))

-- ---- a level of nodes has no more edges than the node above them all: where halving k times leaves leaves, k levels are cut
pub cut_below : (parts : List (List ℕ)) (nodes : ℕ) → ((p : ℕ) → p < nodes → 8 < count_at parts p → Halves parts p) → (k c u w : ℕ) → count_at parts c ≤ 8 * 2 ^ k → c < nodes → w ≤ nodes → Laid parts c u w
    → cut_edges parts w + cut_size (count_at parts c) ≤ cut_edges parts u + k * count_at parts c
cut_below parts nodes halves k c u w few l t (leaf s) = omega (arith, cut_size_leaf (count_at parts c) s)
cut_below parts nodes halves zero c u w few l t (node big kid R L) = absurd (omega arith)
cut_below parts nodes halves (suc k) c u w few l t (node {v = v} big kid R L) =
    let H = halves c l big in
    let grows = laid_grows parts (u + 1) (u + 2) v R in
    let more = laid_grows parts u v w L in
    let twice = two-pow-succ k in
    let right : count_at parts (u + 1) ≡ count_at parts c - count_at parts c / 2 = ap (λ (q : ℕ). count_at parts (q + 1)) (sym kid) ∙ H.right_count in
    let left : count_at parts u ≡ count_at parts c / 2 = ap (count_at parts) (sym kid) ∙ H.left_count in
    let r = cut_below parts nodes halves k (u + 1) (u + 2) v (omega arith) (omega arith) (omega arith) R in
    let m = cut_below parts nodes halves k u v w (omega arith) (omega arith) t L in
    let both : count_at parts u + count_at parts (u + 1) ≡ count_at parts c = omega arith in
    omega (arith, ap (λ (x : ℕ). k * x) both, cut_edges_two parts u, cut_size_cut (count_at parts c) big)

-- at the ceiling of 1,048,576 edges halving 17 times leaves leaves
pub cut_levels : (n : ℕ) (parts : List (List ℕ)) → n ≤ 1048576 → count_at parts 0 ≡ n → ((p : ℕ) → p < node_count n → 8 < count_at parts p → Halves parts p) → Laid parts 0 1 (node_count n)
    → cut_edges parts (node_count n) ≤ 17 * n
cut_levels n parts few root halves laid =
    omega (arith, cut_below parts (node_count n) halves 17 0 1 (node_count n) (omega arith) (node_count_some n) (omega arith) laid, cut_edges_one parts 0, cut_edges_none parts)

-- ---- the loop's state: the cuts so far, and what they read at most; the nodes on the stack are still to be cut
pub record Reading (corners : List ℤ) (rings : List ℕ) (boxes₀ : List (List ℤ)) (parts₀ : List (List ℕ)) (edges₀ : List ℕ) (boxes : List (List ℤ)) (parts : List (List ℕ)) (edges waiting : List ℕ) (top free reads : ℕ) : Type 0 where
  pub cuts : Cuts corners rings boxes₀ parts₀ edges₀ boxes parts edges free reads
  pub most : reads + 65 * owed cut_size parts waiting top ≤ 65 * cut_edges parts free

module _ (corners : List ℤ) (rings : List ℕ) (boxes₀ : List (List ℤ)) (parts₀ : List (List ℕ)) (edges₀ : List ℕ) where
  pub reading_start : (waiting : List ℕ) → get_or waiting 0 0 ≡ 0 → Reading corners rings boxes₀ parts₀ edges₀ boxes₀ parts₀ edges₀ waiting 1 1 0
  reading_start waiting w0 =
      let root = ap (λ (q : ℕ). cut_size (count_at parts₀ q)) w0 in
      record { cuts = uncut; most = omega (arith, owed_one cut_size parts₀ waiting 0, owed_none cut_size parts₀ waiting, cut_edges_one parts₀ 0, cut_edges_none parts₀) }

  module _ (n : ℕ) (boxes : List (List ℤ)) (parts : List (List ℕ)) (edges waiting : List ℕ) (top free reads : ℕ) (S : Shaping n parts waiting top free) (R : Reading corners rings boxes₀ parts₀ edges₀ boxes parts edges waiting top free reads) where
    -- the number stays small
    pub reads_small : n ≤ 1048576 → reads ≤ 68157440 * free
    reads_small few = omega (arith, R.most, cut_edges_most parts 1048576 free (λ p l. omega (arith, S.within p l)))

    module _ (h : 0 < top) where
      pub reading_leaf : Reading corners rings boxes₀ parts₀ edges₀ boxes parts edges waiting (top - 1) free reads
      reading_leaf = record { cuts = R.cuts; most = omega (arith, R.most, owed_pop cut_size parts waiting top h) }

      module _ (left right : Rect) (boxes' : List (List ℤ)) (parts' : List (List ℕ)) (edges' waiting' : List ℕ) (more : ℕ) (big : 8 < count_at parts (get_or waiting (top - 1) 0))
          (G : Grows boxes parts (get_or waiting (top - 1) 0) free left right boxes' parts') (K : Two waiting (top - 1) free (free + 1) waiting') (C : NodeCut corners rings boxes parts edges (get_or waiting (top - 1) 0) free boxes' parts' edges' more) where
        pub reading_cut : Reading corners rings boxes₀ parts₀ edges₀ boxes' parts' edges' waiting' (top - 1 + 2) (free + 2) (reads + more)
        reading_cut =
            let m = count_at parts (get_or waiting (top - 1) 0) in
            let l = ap cut_size (left_on n parts waiting top free S h boxes left right boxes' parts' waiting' big G K) in
            let r = ap cut_size (right_on n parts waiting top free S h boxes left right boxes' parts' waiting' big G K) in
            let gl = ap cut_size G.left_count in
            let gr = ap cut_size G.right_count in
            let rest = owed_rest n parts waiting top free S h boxes left right boxes' parts' waiting' big G K cut_size in
            record {
              cuts = then (get_or waiting (top - 1) 0) (taken_below n parts waiting top free S h) big R.cuts C;
              most = omega (arith, R.most, C.cut.few, cut_size_cut m big, owed_pop cut_size parts waiting top h, owed_two cut_size parts' waiting' (top - 1), cut_edges_two parts' free, cut_edges_same parts parts' free G.count_old);
            }
