-- What sound tables give to walks, refits and corrections. Assumes nothing.
use mathlib.Core.Path.{◌≡◌, sym, ap, ◌∙◌, subst}
use mathlib.Core.Bool.{Bool}
use mathlib.Core.List.{List, []}
use Prim.Native.Nat.{ℕ, suc, ◌+◌, ◌-◌, ◌/◌, ◌≤◌, ◌<◌}
use native.Mathlib.Decide.{ℕ_discrete, dec_lt}
use native.Mathlib.Omega.{arith}
use lib.Dec.{eqb}
use lib.IntN.{ℤ}
use lib.ListN.{get_or}
use Rattle.geom.specs.Boxes.{union_of}
use Rattle.rules.specs.Nodes.{node_count}
use Rattle.rules.proofs.Indexed.{count_to}
use Rattle.boxes.specs.Boxes.{box_of, rect_at, Names}
use Rattle.boxes.proofs.Unions.{box_join}
use Rattle.index.specs.Parts.{first_at, count_at, child_at, Halves, Laid}
use Rattle.index.specs.Parts.Laid.{leaf, node}
use Rattle.index.specs.Sound.{Smallest, IndexSound}
use Rattle.index.proofs.Counts.{node_count_some}
use Rattle.index.proofs.Once.{entry_in_lem, entry_place, entry_once, entries_counted}
use Rattle.index.proofs.Ordering.{rect_read}
use Rattle.index.proofs.Places.{NodePlaces, laid_child, laid_grows, laid_later, laid_nodes, laid_parts, laid_placed}
use Rattle.index.proofs.Reordered.{count_places}

-- ---- one set of smallest boxes for equal corners, edges and parts
pub smallest_one : (corners : List ℤ) (rings edges : List ℕ) (parts : List (List ℕ)) (boxes boxes' : List (List ℤ)) (p : ℕ) → Smallest corners rings edges parts boxes p → Smallest corners rings edges parts boxes' p → get_or boxes p [] ≡ get_or boxes' p []
unfolding Smallest
smallest_one corners rings edges parts boxes boxes' p a b = a ∙ sym b

-- two tables of boxes, each smallest round the same parts of the same edges, agree on the row of every node
pub smallest_tables : (corners : List ℤ) (rings edges : List ℕ) (parts : List (List ℕ)) (boxes boxes' : List (List ℤ)) (nodes : ℕ) → ((p : ℕ) → p < nodes → Smallest corners rings edges parts boxes p) → ((p : ℕ) → p < nodes → Smallest corners rings edges parts boxes' p)
    → (p : ℕ) → p < nodes → get_or boxes p [] ≡ get_or boxes' p []
smallest_tables corners rings edges parts boxes boxes' nodes a b p l = smallest_one corners rings edges parts boxes boxes' p (a p l) (b p l)

-- the row of a smallest box, read as a box
pub smallest_rect : (corners : List ℤ) (rings edges : List ℕ) (parts : List (List ℕ)) (boxes : List (List ℤ)) (p : ℕ) → Smallest corners rings edges parts boxes p → rect_at boxes p ≡ box_of corners rings edges (first_at parts p) (count_at parts p)
unfolding Smallest
smallest_rect corners rings edges parts boxes p s = rect_read boxes p (box_of corners rings edges (first_at parts p) (count_at parts p)) s

-- a cut node's smallest box is the union of its children's
pub halves_union : (corners : List ℤ) (rings edges : List ℕ) (parts : List (List ℕ)) (p : ℕ) → 8 < count_at parts p → Halves parts p
    → union_of (box_of corners rings edges (first_at parts (child_at parts p)) (count_at parts (child_at parts p))) (box_of corners rings edges (first_at parts (child_at parts p + 1)) (count_at parts (child_at parts p + 1)))
    ≡ box_of corners rings edges (first_at parts p) (count_at parts p)
halves_union corners rings edges parts p big H =
    let f = first_at parts p in
    let m = count_at parts p in
    let b = m - m / 2 - 1 in
    let e : m - m / 2 ≡ suc b = omega arith in
    let g : m / 2 + suc b ≡ m = omega arith in
    (λ i. union_of (box_of corners rings edges (H.left_first i) (H.left_count i)) (box_of corners rings edges (H.right_first i) ((H.right_count ∙ e) i)))
    ∙ sym (box_join corners rings edges f (m / 2) b (omega arith)) ∙ ap (box_of corners rings edges f) g

-- what holds of a node and is handed down to children holds of all nodes below it
below_all : (parts : List (List ℕ)) (nodes : ℕ) (P : ℕ → Type 0) → ((p : ℕ) → p < nodes → 8 < count_at parts p → P p → P (child_at parts p) × P (child_at parts p + 1))
    → (c u w : ℕ) → Laid parts c u w → c < nodes → w ≤ nodes → P c → (p : ℕ) → u ≤ p → p < w → P p
below_all parts nodes P down c u w (leaf s) l t h p a b = absurd (omega arith)
below_all parts nodes P down c u w (node {v = v} big kid R L) l t h p a b =
    let grows = laid_grows parts (u + 1) (u + 2) v R in
    let more = laid_grows parts u v w L in
    let kids = rw kid at (down c l big h) in
    go (ℕ_discrete p u) (ℕ_discrete p (u + 1)) (dec_lt p v) kids (below_all parts nodes P down (u + 1) (u + 2) v R (omega arith) (omega arith) kids.1 p) (below_all parts nodes P down u v w L (omega arith) t kids.0 p)
  where
    go : Dec (p ≡ u) → Dec (p ≡ u + 1) → Dec (p < v) → P u × P (u + 1) → (u + 2 ≤ p → p < v → P p) → (v ≤ p → p < w → P p) → P p
    go (yes e) y z k r m = rw e k.0
    go (no n) (yes e) z k r m = rw e k.1
    go (no n) (no d) (yes z) k r m = r (omega arith) z
    go (no n) (no d) (no z) k r m = m (omega arith) b

module _ (n : ℕ) (corners : List ℤ) (rings : List ℕ) (boxes : List (List ℤ)) (parts : List (List ℕ)) (edges : List ℕ) (S : IndexSound n corners rings boxes parts edges) where
  -- what holds of the root and is handed down holds of every node
  pub every_node : (P : ℕ → Type 0) → P 0 → ((p : ℕ) → p < node_count n → 8 < count_at parts p → P p → P (child_at parts p) × P (child_at parts p + 1)) → (p : ℕ) → p < node_count n → P p
  every_node P root down p l = go (ℕ_discrete p 0)
    where
      go : Dec (p ≡ 0) → P p
      go (yes e) = rw e root
      go (no d) = below_all parts (node_count n) P down 0 1 (node_count n) S.places (node_count_some n) (omega arith) root p (omega arith) l

  -- a cut node's children stand at later places of the table
  pub children_later : (p : ℕ) → p < node_count n → 8 < count_at parts p → (p < child_at parts p) × (child_at parts p + 1 < node_count n)
  children_later p l big = go (ℕ_discrete p 0)
    where
      go : Dec (p ≡ 0) → (p < child_at parts p) × (child_at parts p + 1 < node_count n)
      go (yes e) = let h = laid_child parts 0 1 (node_count n) S.places (rw e at big) in rw e (omega (arith, h.0), omega (arith, h.0, h.1))
      go (no d) = laid_later parts 0 1 (node_count n) S.places p (omega arith) l big

  -- every part lies in the edge list, and none is empty unless the plan has no edges
  pub part_inside : (p : ℕ) → p < node_count n → first_at parts p + count_at parts p ≤ n
  part_inside = every_node (λ p. first_at parts p + count_at parts p ≤ n) (omega (arith, S.root_first, S.root_count)) (λ p l big h. let H = S.halves p l big in omega arith)

  pub part_some : 0 < n → (p : ℕ) → p < node_count n → 0 < count_at parts p
  part_some some = every_node (λ p. 0 < count_at parts p) (omega (arith, S.root_count)) (λ p l big h. let H = S.halves p l big in omega arith)

  -- the nodes below a node stand side by side
  laid_below : (p : ℕ) → p < node_count n → (u : ℕ) × (w : ℕ) × (w ≤ node_count n) × Laid parts p u w
  laid_below = every_node (λ p. (u : ℕ) × (w : ℕ) × (w ≤ node_count n) × Laid parts p u w) (1, node_count n, omega arith, S.places) down
    where
      down : (p : ℕ) → p < node_count n → 8 < count_at parts p → ((u : ℕ) × (w : ℕ) × (w ≤ node_count n) × Laid parts p u w)
          → ((u : ℕ) × (w : ℕ) × (w ≤ node_count n) × Laid parts (child_at parts p) u w) × ((u : ℕ) × (w : ℕ) × (w ≤ node_count n) × Laid parts (child_at parts p + 1) u w)
      down p l big (u, w, t, D) =
          let h = laid_parts parts p u w D big in
          let g = h.1 in
          ((h.0, w, t, h.2), (u + 2, h.0, omega arith, h.3))

  -- there are N(count) nodes from a cut node p down: the ones below it take the N(count) − 1 places from its left child on
  pub nodes_below_lem : (p : ℕ) → p < node_count n → 8 < count_at parts p → Laid parts p (child_at parts p) (child_at parts p + node_count (count_at parts p) - 1)
  nodes_below_lem p l big = go (laid_below p l)
    where
      go : ((u : ℕ) × (w : ℕ) × (w ≤ node_count n) × Laid parts p u w) → Laid parts p (child_at parts p) (child_at parts p + node_count (count_at parts p) - 1)
      go (u, w, t, D) =
          let kid = (laid_child parts p u w D big).0 in
          let all = laid_nodes parts (node_count n) S.halves p u w l t D in
          let e : w ≡ child_at parts p + node_count (count_at parts p) - 1 = omega arith in
          subst (Laid parts p (child_at parts p)) e (subst (λ (q : ℕ). Laid parts p q w) (sym kid) D)

  -- item 5's places node by node, from the root on; `laid_whole` goes the other way
  pub root_child : 8 < count_at parts 0 → child_at parts 0 ≡ 1
  root_child big = (laid_child parts 0 1 (node_count n) S.places big).0

  pub node_places : (p : ℕ) → p < node_count n → 8 < count_at parts p → NodePlaces parts p
  node_places p l big = go (laid_below p l)
    where
      go : ((u : ℕ) × (w : ℕ) × (w ≤ node_count n) × Laid parts p u w) → NodePlaces parts p
      go (u, w, t, D) = laid_placed parts (node_count n) S.halves p u w l t D big

  -- ---- the edge list
  once_by_place : (e : ℕ) → e < n → count_to (λ k. eqb (get_or edges k 0) e) n ≡ 1
  once_by_place e h = sym (count_places (λ x. eqb x e) n edges S.edges_reach) ∙ S.each_once e h

  pub edge_in : (k : ℕ) → k < n → get_or edges k 0 < n
  edge_in = entry_in_lem (λ k. get_or edges k 0) n once_by_place

  pub edge_place : (e : ℕ) → e < n → (k : ℕ) × (k < n) × (get_or edges k 0 ≡ e)
  edge_place = entry_place (λ k. get_or edges k 0) n once_by_place

  pub edge_once : (j k : ℕ) → j < n → k < n → get_or edges j 0 ≡ get_or edges k 0 → j ≡ k
  edge_once = entry_once (λ k. get_or edges k 0) n once_by_place

  -- a count over the places of the edge list is the count over the edges
  pub edges_counted : (test : ℕ → Bool) → count_to (λ k. test (get_or edges k 0)) n ≡ count_to test n
  edges_counted = entries_counted (λ k. get_or edges k 0) n once_by_place

  pub part_names : (p : ℕ) → p < node_count n → Names n edges (first_at parts p) (count_at parts p)
  part_names p l = let h = part_inside p l in record { inside = omega (arith, S.edges_reach); each = λ k a b. edge_in k (omega arith) }
