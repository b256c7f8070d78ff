-- The path from the root to a place of the edge list: it grows node by node, on sound tables it ends after at most 18 nodes, and it is
-- just the nodes whose parts hold the place. Assumes nothing.
use mathlib.Core.Path.{◌≡◌, sym, ap, ◌∙◌, subst}
use mathlib.Core.List.{List}
use Prim.Native.Nat.{ℕ, zero, suc, ◌+◌, ◌-◌, ◌/◌, ◌^◌, ◌≤◌, ◌<◌}
use native.Mathlib.Numerals.{add-one}
use native.Mathlib.Decide.{ℕ_discrete, dec_lt}
use native.Mathlib.Omega.{arith}
use lib.IntN.{ℤ}
use lib.ListN.{length, get_or, set}
use lib.Seq.{get_or-set_same, get_or-set_other}
use Rattle.rules.specs.Nodes.{node_count}
use Rattle.index.specs.Parts.{first_at, count_at, child_at}
use Rattle.index.specs.Sound.{IndexSound}
use Rattle.index.proofs.Counts.{node_count_some}
use Rattle.index.proofs.Shaping.{shallow, halved}
use Rattle.index.proofs.Soundness.{every_node, children_later, part_inside}
use Rattle.refit.specs.Paths.{Holds, Open, Below, Leads, PathTo, RefitSound}

-- ---- node by node, on any tables
pub leads_start : (parts : List (List ℕ)) (nodes k : ℕ) (path : List ℕ) → get_or path 0 0 ≡ 0 → Leads parts nodes k path 1
leads_start parts nodes k path e = record { some = omega arith; few = omega arith; root = e; down = λ j h. absurd (omega arith) }

pub leads_more : (parts : List (List ℕ)) (nodes k : ℕ) (path : List ℕ) (depth c : ℕ) → 18 ≤ length path → depth < 18 → Leads parts nodes k path depth → Below parts nodes k (get_or path (depth - 1) 0) c → Leads parts nodes k (set path depth c) (depth + 1)
leads_more parts nodes k path depth c room few L B = record {
  some = omega arith;
  few = omega arith;
  root = get_or-set_other path depth 0 c 0 (let s = L.some in omega arith) ∙ L.root;
  down = λ j t. go j t (ℕ_discrete (j + 1) depth);
}
  where
    old : (j : ℕ) → j < depth → get_or (set path depth c) j 0 ≡ get_or path j 0
    old j t = get_or-set_other path depth j c 0 (omega arith)

    go : (j : ℕ) → j + 1 < depth + 1 → Dec (j + 1 ≡ depth) → Below parts nodes k (get_or (set path depth c) j 0) (get_or (set path depth c) (j + 1) 0)
    go j t (yes e) =
        let a : get_or (set path depth c) (j + 1) 0 ≡ c = ap (λ (x : ℕ). get_or (set path depth c) x 0) e ∙ get_or-set_same path depth c 0 (omega arith) in
        let s : j ≡ depth - 1 = omega arith in
        let b : get_or (set path depth c) j 0 ≡ get_or path (depth - 1) 0 = old j (omega arith) ∙ ap (λ (x : ℕ). get_or path x 0) s in
        rw (a, b) B
    go j t (no d) = rw (old j (omega arith), old (j + 1) (omega arith)) (L.down j (omega arith))

module _ (n : ℕ) (corners : List ℤ) (rings : List ℕ) (boxes : List (List ℤ)) (parts : List (List ℕ)) (edges : List ℕ) (S : IndexSound n corners rings boxes parts edges) where
  -- a place that a child's part holds, its node's part holds too
  pub holds_left : (k p : ℕ) → p < node_count n → 8 < count_at parts p → Holds parts (child_at parts p) k → Holds parts p k
  holds_left k p l big h = let H = S.halves p l big in record { from = omega arith; to = omega arith }

  pub holds_right : (k p : ℕ) → p < node_count n → 8 < count_at parts p → Holds parts (child_at parts p + 1) k → Holds parts p k
  holds_right k p l big h = let H = S.halves p l big in record { from = omega arith; to = omega arith }

  module _ (k : ℕ) (place : k < n) where
    root_holds : Holds parts 0 k
    root_holds = let a = S.root_first in let b = S.root_count in record { from = omega arith; to = omega arith }

    -- from a node whose part holds the place to the child on its side
    below_holds : (p c : ℕ) → Holds parts p k → Below parts (node_count n) k p c → Holds parts c k × (c < node_count n) × (p < c) × (count_at parts c ≤ count_at parts p - count_at parts p / 2)
    below_holds p c h B = go (dec_lt k (first_at parts p + count_at parts p / 2))
      where
        go : Dec (k < first_at parts p + count_at parts p / 2) → Holds parts c k × (c < node_count n) × (p < c) × (count_at parts c ≤ count_at parts p - count_at parts p / 2)
        go (yes l) =
            let H = S.halves p B.node B.big in
            let later = (children_later n corners rings boxes parts edges S p B.node B.big).0 in
            let e = B.left l in
            let room = B.children in
            rw e (record { from = omega arith; to = omega arith }, omega arith, omega arith, omega arith)
        go (no l) =
            let H = S.halves p B.node B.big in
            let later = (children_later n corners rings boxes parts edges S p B.node B.big).0 in
            let e = B.right (omega arith) in
            let room = B.children in
            rw e (record { from = omega arith; to = omega arith }, omega arith, omega arith, omega arith)

    module _ (path : List ℕ) (depth : ℕ) (L : Leads parts (node_count n) k path depth) where
      next : (j : ℕ) → suc j < depth → Below parts (node_count n) k (get_or path j 0) (get_or path (suc j) 0)
      next j l = subst (λ (x : ℕ). Below parts (node_count n) k (get_or path j 0) (get_or path x 0)) (add-one j) (L.down j (omega arith))

      -- every node of the path holds the place
      pub path_holds : (j : ℕ) → j < depth → Holds parts (get_or path j 0) k × (get_or path j 0 < node_count n)
      path_holds zero l = rw L.root (root_holds, node_count_some n)
      path_holds (suc j) l = let r = below_holds (get_or path j 0) (get_or path (suc j) 0) (path_holds j (omega arith)).0 (next j l) in (r.0, r.1)

      -- the path goes to later places of the node table
      pub path_rises : (i j : ℕ) → i < j → j < depth → get_or path i 0 < get_or path j 0
      path_rises i zero h l = absurd (omega arith)
      path_rises i (suc j) h l = go (ℕ_discrete i j) (λ t. path_rises i j t (omega arith)) (below_holds (get_or path j 0) (get_or path (suc j) 0) (path_holds j (omega arith)).0 (next j l)).2
        where
          go : Dec (i ≡ j) → (i < j → get_or path i 0 < get_or path j 0) → get_or path j 0 < get_or path (suc j) 0 → get_or path i 0 < get_or path (suc j) 0
          go (yes e) ih s = rw e s
          go (no d) ih s = omega (arith, ih (omega arith))

      -- its parts halve
      path_small : n ≤ 1048576 → (j : ℕ) → j < depth → count_at parts (get_or path j 0) ≤ 2 ^ (20 - j)
      path_small few zero l = rw L.root (omega (arith, S.root_count))
      path_small few (suc j) l =
          let ih = path_small few j (omega arith) in
          let B = next j l in
          let r = below_holds (get_or path j 0) (get_or path (suc j) 0) (path_holds j (omega arith)).0 B in
          let h = halved j (count_at parts (get_or path j 0)) (shallow j (count_at parts (get_or path j 0)) B.big ih) ih in
          let s : count_at parts (get_or path (suc j) 0) ≤ 2 ^ (20 - (j + 1)) = omega (arith, r.3) in
          subst (λ (x : ℕ). count_at parts (get_or path (suc j) 0) ≤ 2 ^ (20 - x)) (add-one j) s

      -- so that the eighteenth node is a leaf
      pub path_ends : n ≤ 1048576 → (c : ℕ) → 18 ≤ depth → Below parts (node_count n) k (get_or path (depth - 1) 0) c → ⊥
      path_ends few c h B =
          let most = L.few in
          let deep = shallow (depth - 1) (count_at parts (get_or path (depth - 1) 0)) B.big (path_small few (depth - 1) (omega arith)) in
          omega arith

      -- and no number on the way is outside its table
      pub path_open : Open parts n (node_count n) k (get_or path (depth - 1) 0)
      path_open =
          let some = L.some in
          let h = path_holds (depth - 1) (omega arith) in
          record {
            node = h.1;
            from = h.0.from;
            fits = part_inside n corners rings boxes parts edges S (get_or path (depth - 1) 0) h.1;
            children = λ big. (children_later n corners rings boxes parts edges S (get_or path (depth - 1) 0) h.1 big).1;
          }

    -- every node whose part holds the place is on the path
    module _ (path : List ℕ) (depth : ℕ) (P : PathTo n parts (node_count n) k path depth) where
      On : ℕ → Type 0
      On p = Holds parts p k → (j : ℕ) × (j < depth) × (get_or path j 0 ≡ p)

      pub path_whole : (p : ℕ) → p < node_count n → Holds parts p k → (j : ℕ) × (j < depth) × (get_or path j 0 ≡ p)
      unfolding On
      path_whole = every_node n corners rings boxes parts edges S On (λ h. (0, P.leads.some, P.leads.root)) (λ p l big up. (left p l big up, right p l big up))
        where
          inner : (p j : ℕ) → 8 < count_at parts p → j < depth → get_or path j 0 ≡ p → j + 1 < depth
          inner p j big l e = go (dec_lt (j + 1) depth)
            where
              go : Dec (j + 1 < depth) → j + 1 < depth
              go (yes t) = t
              go (no t) =
                  let x : depth - 1 ≡ j = omega arith in
                  let small : count_at parts p ≤ 8 = rw (x, e) at P.leaf.small in
                  absurd (omega arith)

          left : (p : ℕ) → p < node_count n → 8 < count_at parts p → On p → On (child_at parts p)
          left p l big up h =
              let H = S.halves p l big in
              let (j, t, e) = up (holds_left k p l big h) in
              let more = inner p j big t e in
              let B = rw e at (P.leads.down j more) in
              (j + 1, more, B.left (omega (arith, h.to)))

          right : (p : ℕ) → p < node_count n → 8 < count_at parts p → On p → On (child_at parts p + 1)
          right p l big up h =
              let H = S.halves p l big in
              let (j, t, e) = up (holds_right k p l big h) in
              let more = inner p j big t e in
              let B = rw e at (P.leads.down j more) in
              (j + 1, more, B.right (omega (arith, h.from)))

-- ---- a search that stops on the way
module _ (n : ℕ) (parts : List (List ℕ)) (nodes k : ℕ) (all : nodes ≡ node_count n) (place : k < n) (path : List ℕ) (depth p : ℕ) (L : Leads parts nodes k path depth) (here : p ≡ get_or path (depth - 1) 0) where
  leads : Leads parts (node_count n) k path depth
  leads = subst (λ (m : ℕ). Leads parts m k path depth) all L

  -- a number outside its table is not found on sound tables
  pub never_astray : (Open parts n nodes k p → ⊥) → (count : ℕ) (corners : List ℤ) (rings : List ℕ) (boxes : List (List ℤ)) (edges : List ℕ) → RefitSound n count corners rings boxes parts edges → ⊥
  never_astray astray count corners rings boxes edges T =
      astray (subst (λ (m : ℕ). Open parts n m k p) (sym all) (subst (Open parts n (node_count n) k) (sym here) (path_open n corners rings boxes parts edges T.index k place path depth leads)))

  -- nor a node below the eighteenth
  pub never_deeper : (c : ℕ) → 18 ≤ depth → Below parts nodes k p c → (count : ℕ) (corners : List ℤ) (rings : List ℕ) (boxes : List (List ℤ)) (edges : List ℕ) → RefitSound n count corners rings boxes parts edges → ⊥
  never_deeper c deep B count corners rings boxes edges T =
      path_ends n corners rings boxes parts edges T.index k place path depth leads T.few c deep (subst (λ (q : ℕ). Below parts (node_count n) k q c) here (subst (λ (m : ℕ). Below parts m k p c) all B))
