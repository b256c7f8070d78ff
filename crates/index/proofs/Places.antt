-- Where the nodes stand: how many there are below a node, and that the children of a cut node stand at later places of the table.
-- Assumes nothing.
use mathlib.Core.Path.{◌≡◌, sym, ap, ◌∙◌, subst}
use mathlib.Core.List.{List}
use Prim.Native.Nat.{ℕ, zero, suc, ◌+◌, ◌-◌, ◌/◌, ◌≤◌, ◌<◌}
use native.Mathlib.Decide.{ℕ_discrete, dec_lt}
use native.Mathlib.Omega.{arith}
use Rattle.rules.specs.Nodes.{node_count}
use Rattle.rules.proofs.Nodes.{node_count_leaf, node_count_cut}
use Rattle.index.specs.Parts.{count_at, child_at, Halves, Laid}
use Rattle.index.specs.Parts.Laid.{leaf, node}
use Rattle.index.proofs.Counts.{node_count_some}

module _ (parts : List (List ℕ)) where
  pub laid_grows : (c u w : ℕ) → Laid parts c u w → u ≤ w
  laid_grows c u w (leaf s) = omega arith
  laid_grows c u w (node {v = v} big kid R L) = omega (arith, laid_grows (u + 1) (u + 2) v R, laid_grows u v w L)

  -- a cut node's children take the first two places
  pub laid_child : (c u w : ℕ) → Laid parts c u w → 8 < count_at parts c → (child_at parts c ≡ u) × (u + 2 ≤ w)
  laid_child c u w (leaf s) big = absurd (omega arith)
  laid_child c u w (node {v = v} _ kid R L) big = (kid, omega (arith, laid_grows (u + 1) (u + 2) v R, laid_grows u v w L))

  -- the nodes below a cut node's two parts take places too, those below the right part first
  pub laid_parts : (c u w : ℕ) → Laid parts c u w → 8 < count_at parts c → (v : ℕ) × (v ≤ w) × Laid parts (child_at parts c) v w × Laid parts (child_at parts c + 1) (u + 2) v
  laid_parts c u w (leaf s) big = absurd (omega arith)
  laid_parts c u w (node {v = v} _ kid R L) big = (v, laid_grows u v w L, subst (λ (q : ℕ). Laid parts q v w) (sym kid) L, subst (λ (q : ℕ). Laid parts (q + 1) (u + 2) v) (sym kid) R)

  -- each node below c has its children, if it is cut, at later places below w
  pub laid_later : (c u w : ℕ) → Laid parts c u w → (p : ℕ) → u ≤ p → p < w → 8 < count_at parts p → (p < child_at parts p) × (child_at parts p + 1 < w)
  laid_later c u w (leaf s) p a b big = absurd (omega arith)
  laid_later c u w (node {v = v} _ kid R L) p a b big =
      go (ℕ_discrete p u) (ℕ_discrete p (u + 1)) (dec_lt p v) (λ x y. laid_later (u + 1) (u + 2) v R p x y big) (λ x. laid_later u v w L p x b big)
    where
      right : u + 2 ≤ v
      right = laid_grows (u + 1) (u + 2) v R

      left : v ≤ w
      left = laid_grows u v w L

      go : Dec (p ≡ u) → Dec (p ≡ u + 1) → Dec (p < v) → (u + 2 ≤ p → p < v → (p < child_at parts p) × (child_at parts p + 1 < v)) → (v ≤ p → (p < child_at parts p) × (child_at parts p + 1 < w)) → (p < child_at parts p) × (child_at parts p + 1 < w)
      go (yes e) y z ih_right ih_left =
          let h = laid_child u v w L (rw e at big) in
          rw e (omega (arith, h.0, h.1, right), omega (arith, h.0, h.1))
      go (no n) (yes e) z ih_right ih_left =
          let h = laid_child (u + 1) (u + 2) v R (rw e at big) in
          rw e (omega (arith, h.0, h.1), omega (arith, h.0, h.1, left))
      go (no n) (no m) (yes z) ih_right ih_left = let h = ih_right (omega arith) z in (h.0, omega (arith, h.1, left))
      go (no n) (no m) (no z) ih_right ih_left = ih_left (omega arith)

  -- the nodes below c take N(count) − 1 places
  pub laid_nodes : (nodes : ℕ) → ((p : ℕ) → p < nodes → 8 < count_at parts p → Halves parts p) → (c u w : ℕ) → c < nodes → w ≤ nodes → Laid parts c u w → w + 1 ≡ u + node_count (count_at parts c)
  laid_nodes nodes halves c u w l t (leaf s) = omega (arith, node_count_leaf (count_at parts c) s)
  laid_nodes nodes halves c u w l t (node {v = v} big kid R L) =
      let H = halves c l big in
      let grows = laid_grows (u + 1) (u + 2) v R in
      let more = laid_grows u v w L in
      let r = laid_nodes nodes halves (u + 1) (u + 2) v (omega arith) (omega arith) R in
      let m = laid_nodes nodes halves u v w (omega arith) t L in
      let er = ap node_count (ap (λ (k : ℕ). count_at parts (k + 1)) (sym kid) ∙ H.right_count) in
      let el = ap node_count (ap (λ (k : ℕ). count_at parts k) (sym kid) ∙ H.left_count) in
      omega (arith, node_count_cut (count_at parts c) big)

-- ---- the places node by node, as code can test them: the rule of the next free places comes to this
pub record NodePlaces (parts : List (List ℕ)) (p : ℕ) : Type 0 where
  pub right_place : 8 < count_at parts (child_at parts p + 1) → child_at parts (child_at parts p + 1) ≡ child_at parts p + 2
  pub left_place : 8 < count_at parts (child_at parts p) → child_at parts (child_at parts p) ≡ child_at parts p + 1 + node_count (count_at parts (child_at parts p + 1))

module _ (parts : List (List ℕ)) (nodes : ℕ) (halves : (p : ℕ) → p < nodes → 8 < count_at parts p → Halves parts p) where
  -- from the nodes to the rule
  pub laid_from : ((p : ℕ) → p < nodes → 8 < count_at parts p → NodePlaces parts p) → (bound c u : ℕ) → count_at parts c < bound → c < nodes → (8 < count_at parts c → child_at parts c ≡ u) → u + node_count (count_at parts c) ≤ nodes + 1
      → Laid parts c u (u + node_count (count_at parts c) - 1)
  laid_from placed zero c u l h kid fits = absurd (omega arith)
  laid_from placed (suc bound) c u l h kid fits = split (dec_lt 8 (count_at parts c)) (laid_from placed bound (u + 1) (u + 2)) (laid_from placed bound u)
    where
      split : Dec (8 < count_at parts c)
          → (count_at parts (u + 1) < bound → u + 1 < nodes → (8 < count_at parts (u + 1) → child_at parts (u + 1) ≡ u + 2) → u + 2 + node_count (count_at parts (u + 1)) ≤ nodes + 1 → Laid parts (u + 1) (u + 2) (u + 2 + node_count (count_at parts (u + 1)) - 1))
          → ((v : ℕ) → count_at parts u < bound → u < nodes → (8 < count_at parts u → child_at parts u ≡ v) → v + node_count (count_at parts u) ≤ nodes + 1 → Laid parts u v (v + node_count (count_at parts u) - 1))
          → Laid parts c u (u + node_count (count_at parts c) - 1)
      split (no small) right left = subst (Laid parts c u) (let e : u ≡ u + node_count (count_at parts c) - 1 = omega (arith, node_count_leaf (count_at parts c) (omega arith)) in e) (leaf (omega arith))
      split (yes big) right left =
          let k = kid big in
          let H = halves c h big in
          let P = placed c h big in
          let lc : count_at parts u ≡ count_at parts c / 2 = ap (count_at parts) (sym k) ∙ H.left_count in
          let rc : count_at parts (u + 1) ≡ count_at parts c - count_at parts c / 2 = ap (λ q. count_at parts (q + 1)) (sym k) ∙ H.right_count in
          let nl = ap node_count lc in
          let nr = ap node_count rc in
          let cut = node_count_cut (count_at parts c) big in
          let some_left = node_count_some (count_at parts u) in
          let some_right = node_count_some (count_at parts (u + 1)) in
          let v = u + 2 + node_count (count_at parts (u + 1)) - 1 in
          let R = right (omega arith) (omega arith) (λ b. ap (λ q. child_at parts (q + 1)) (sym k) ∙ P.right_place (rw (ap (λ q. count_at parts (q + 1)) k) b) ∙ ap (λ q. q + 2) k) (omega arith) in
          let there : u + 1 + node_count (count_at parts (u + 1)) ≡ v = omega arith in
          let L = left v (omega arith) (omega arith) (λ b. ap (child_at parts) (sym k) ∙ P.left_place (rw (ap (count_at parts) k) b) ∙ (λ i. k i + 1 + node_count (count_at parts (k i + 1))) ∙ there) (omega arith) in
          subst (Laid parts c u) (let e : v + node_count (count_at parts u) - 1 ≡ u + node_count (count_at parts c) - 1 = omega arith in e) (node big k R L)

  -- from the nodes to the rule of a whole table: a cut root's children take the places 1 and 2
  pub laid_whole : node_count (count_at parts 0) ≡ nodes → (8 < count_at parts 0 → child_at parts 0 ≡ 1) → ((p : ℕ) → p < nodes → 8 < count_at parts p → NodePlaces parts p) → Laid parts 0 1 nodes
  laid_whole all root placed =
      let some = node_count_some (count_at parts 0) in
      let e : 1 + node_count (count_at parts 0) - 1 ≡ nodes = omega arith in
      subst (Laid parts 0 1) e (laid_from placed (suc (count_at parts 0)) 0 1 (omega arith) (omega arith) root (omega arith))

  -- and back
  pub laid_placed : (c u w : ℕ) → c < nodes → w ≤ nodes → Laid parts c u w → 8 < count_at parts c → NodePlaces parts c
  laid_placed c u w l t (leaf s) big = absurd (omega arith)
  laid_placed c u w l t (node {v = v} _ kid R L) big =
      let grows = laid_grows parts (u + 1) (u + 2) v R in
      let more = laid_grows parts u v w L in
      let below = laid_nodes parts nodes halves (u + 1) (u + 2) v (omega arith) (omega arith) R in
      let there : v ≡ u + 1 + node_count (count_at parts (u + 1)) = omega arith in
      record {
        right_place = λ b. ap (λ q. child_at parts (q + 1)) kid ∙ (laid_child parts (u + 1) (u + 2) v R (rw (ap (λ q. count_at parts (q + 1)) (sym kid)) b)).0 ∙ ap (λ q. q + 2) (sym kid);
        left_place = λ b. ap (child_at parts) kid ∙ (laid_child parts u v w L (rw (ap (count_at parts) (sym kid)) b)).0 ∙ there ∙ (λ i. sym kid i + 1 + node_count (count_at parts (sym kid i + 1)));
      }
