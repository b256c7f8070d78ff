-- A corner moves, and the paths to its two edges are refitted one after the other: sound tables are sound again, and only boxes above
-- these edges change. Assumes nothing.
use mathlib.Core.Path.{◌≡◌, sym, ap, ◌∙◌, subst}
use mathlib.Core.List.{List, []}
use Prim.Native.Nat.{ℕ, ◌+◌, ◌≤◌, ◌<◌}
use native.Mathlib.Decide.{dec_lt}
use native.Mathlib.Omega.{arith}
use lib.IntN.{ℤ}
use lib.ListN.{length, get_or}
use Rattle.geom.specs.Boxes.{rect_of}
use Rattle.rules.specs.Nodes.{node_count}
use Rattle.rules.specs.Plans.{corner_at}
use Rattle.boxes.specs.Rings.{start_of, next_in, next_corner, edge_of, RingAt, RingEnds}
use Rattle.boxes.specs.Boxes.{edge_box, row_of}
use Rattle.boxes.proofs.Rings.{one_ring, ring_found, next_of_ring, next_same_ring, next_inside, next_within, next_last}
use Rattle.boxes.proofs.Unions.{box_same}
use Rattle.index.specs.Parts.{first_at, count_at}
use Rattle.index.specs.Sound.{Smallest, IndexSound}
use Rattle.index.proofs.Soundness.{part_inside, edge_in, edge_once}
use Rattle.refit.specs.Paths.{Holds, Found}
use Rattle.refit.specs.Refits.{Refit}
use Rattle.refit.proofs.Paths.{holds_left, holds_right, path_holds}
use Rattle.refit.proofs.Fitting.{refit_smallest}

-- ---- each corner ends one edge
module _ (n count : ℕ) (rings : List ℕ) (R : RingEnds n count rings) where
  next_one_in : (d e r : ℕ) → RingAt rings count d r → RingAt rings count e r → next_corner rings d ≡ next_corner rings e → d ≡ e
  next_one_in d e r D E q = go (dec_lt (d + 1) (get_or rings r 0)) (dec_lt (e + 1) (get_or rings r 0))
    where
      nd : next_corner rings d ≡ next_in (start_of rings r) (get_or rings r 0) d
      nd = next_of_ring n count rings R d r D

      ne : next_corner rings e ≡ next_in (start_of rings r) (get_or rings r 0) e
      ne = next_of_ring n count rings R e r E

      go : Dec (d + 1 < get_or rings r 0) → Dec (e + 1 < get_or rings r 0) → d ≡ e
      go (yes a) (yes b) = omega (arith, q, nd, ne, next_within (start_of rings r) (get_or rings r 0) d a, next_within (start_of rings r) (get_or rings r 0) e b)
      go (yes a) (no b) = absurd (omega (arith, q, nd, ne, D.from, next_within (start_of rings r) (get_or rings r 0) d a, next_last (start_of rings r) (get_or rings r 0) e (omega arith)))
      go (no a) (yes b) = absurd (omega (arith, q, nd, ne, E.from, next_last (start_of rings r) (get_or rings r 0) d (omega arith), next_within (start_of rings r) (get_or rings r 0) e b))
      go (no a) (no b) = omega (arith, D.to, E.to)

  pub next_one : (d e : ℕ) → d < n → e < n → next_corner rings d ≡ next_corner rings e → d ≡ e
  next_one d e hd he q =
      let (r, D) = ring_found n count rings R d hd in
      let (s, E) = ring_found n count rings R e he in
      let same = one_ring n count rings R (next_corner rings d) r s (next_same_ring n count rings R d r D) (subst (λ (c : ℕ). RingAt rings count c s) (sym q) (next_same_ring n count rings R e s E)) in
      next_one_in d e r D (subst (RingAt rings count e) (sym same) E) q

-- ---- the corner that moves

-- corner i alone may stand elsewhere
abbrev pub OnlyCorner : ℕ → ℕ → List ℤ → List ℤ → Type 0
OnlyCorner n i corners corners' = (j : ℕ) → j < n → (j ≡ i → ⊥) → corner_at corners' j ≡ corner_at corners j

-- an edge that neither starts nor ends at it has the box that it had
pub edge_other : (n count : ℕ) (rings : List ℕ) → RingEnds n count rings → (corners corners' : List ℤ) (i : ℕ) → OnlyCorner n i corners corners' → (e : ℕ) → e < n → (e ≡ i → ⊥) → (next_corner rings e ≡ i → ⊥) → edge_box corners' rings e ≡ edge_box corners rings e
unfolding edge_box edge_of
edge_other n count rings R corners corners' i only e l a b =
    let x = only e l a in
    let y = only (next_corner rings e) (next_inside n count rings R e l) b in
    λ t. rect_of (x t) (y t)

-- the edge that starts at corner i stands at place k₁ of the edge list, and the one that ends there at place k₂
pub record EdgesOf (n : ℕ) (rings edges : List ℕ) (i k₁ k₂ : ℕ) : Type 0 where
  pub start_place : k₁ < n
  pub stop_place : k₂ < n
  pub starts : get_or edges k₁ 0 ≡ i
  pub stops : next_corner rings (get_or edges k₂ 0) ≡ i

module _ (n count : ℕ) (corners : List ℤ) (rings : List ℕ) (boxes : List (List ℤ)) (parts : List (List ℕ)) (edges : List ℕ) (R : RingEnds n count rings) (S : IndexSound n corners rings boxes parts edges) (k₁ k₂ : ℕ) (path₁ stops₁ : List ℕ) (depth₁ : ℕ) (W₁ : Found n count rings parts edges k₁ path₁ stops₁ depth₁) (path₂ stops₂ : List ℕ) (depth₂ : ℕ) (W₂ : Found n count rings parts edges k₂ path₂ stops₂ depth₂) (corners' : List ℤ) (boxes₁ boxes₂ : List (List ℤ)) (F₁ : Refit n corners' boxes parts edges path₁ stops₁ depth₁ boxes₁) (F₂ : Refit n corners' boxes₁ parts edges path₂ stops₂ depth₂ boxes₂) where
  off_path : (k : ℕ) (path stops : List ℕ) (depth : ℕ) → Found n count rings parts edges k path stops depth → (p : ℕ) → (Holds parts p k → ⊥) → (j : ℕ) → j < depth → get_or path j 0 ≡ p → ⊥
  off_path k path stops depth W p x j l e = x (rw e at (path_holds n corners rings boxes parts edges S k W.place path depth W.path_to.leads j l).0)

  -- the box table keeps its length and every row past the nodes
  pub moved_long : length boxes₂ ≡ length boxes
  moved_long = F₂.long ∙ F₁.long

  pub moved_beyond : (p : ℕ) → node_count n ≤ p → get_or boxes₂ p [] ≡ get_or boxes p []
  moved_beyond p h = F₂.beyond p h ∙ F₁.beyond p h

  -- boxes that are above neither edge stay as they were
  pub moved_rest : (p : ℕ) → (Holds parts p k₁ → ⊥) → (Holds parts p k₂ → ⊥) → get_or boxes₂ p [] ≡ get_or boxes p []
  moved_rest p x y = F₂.off_path p (off_path k₂ path₂ stops₂ depth₂ W₂ p y) ∙ F₁.off_path p (off_path k₁ path₁ stops₁ depth₁ W₁ p x)

  module _ (i : ℕ) (only : OnlyCorner n i corners corners') (E : EdgesOf n rings edges i k₁ k₂) where
    -- an edge at another place has the box that it had
    edge_kept : (k : ℕ) → k < n → (k ≡ k₁ → ⊥) → (k ≡ k₂ → ⊥) → edge_box corners' rings (get_or edges k 0) ≡ edge_box corners rings (get_or edges k 0)
    edge_kept k l a b =
        edge_other n count rings R corners corners' i only (get_or edges k 0) (inside k l)
        (λ e. a (edge_once n corners rings boxes parts edges S k k₁ l E.start_place (e ∙ sym E.starts)))
        (λ e. b (edge_once n corners rings boxes parts edges S k k₂ l E.stop_place (next_one n count rings R (get_or edges k 0) (get_or edges k₂ 0) (inside k l) (inside k₂ E.stop_place) (e ∙ sym E.stops))))
      where
        inside : (k : ℕ) → k < n → get_or edges k 0 < n
        inside = edge_in n corners rings boxes parts edges S

    -- and so has a node that holds neither place
    box_kept : (p : ℕ) → p < node_count n → (Holds parts p k₁ → ⊥) → (Holds parts p k₂ → ⊥) → Smallest corners' rings edges parts boxes p
    unfolding Smallest
    box_kept p l x y =
        let inside = part_inside n corners rings boxes parts edges S p l in
        S.smallest p l ∙ ap row_of (sym (box_same corners corners' rings edges edges (first_at parts p) (count_at parts p) (λ k a b.
        edge_kept k (omega arith) (λ e. x (record { from = omega arith; to = omega arith })) (λ e. y (record { from = omega arith; to = omega arith })))))

    -- after the first refit every box is the smallest, but for those above the other edge
    one_refitted : (p : ℕ) → p < node_count n → (Holds parts p k₂ → ⊥) → Smallest corners' rings edges parts boxes₁ p
    one_refitted p l y =
        subst (λ (b : List (List ℤ)). Smallest corners' rings edges parts b p) (sym F₁.are)
        (refit_smallest n corners rings boxes parts edges S corners' (λ p. Holds parts p k₂)
        (holds_left n corners rings boxes parts edges S k₂) (holds_right n corners rings boxes parts edges S k₂)
        path₁ count k₁ stops₁ depth₁ R W₁ boxes S.boxes_reach (λ p l y x. box_kept p l x y) p l y)

    -- and after the second every box
    both_refitted : (p : ℕ) → p < node_count n → Smallest corners' rings edges parts boxes₂ p
    both_refitted p l =
        subst (λ (b : List (List ℤ)). Smallest corners' rings edges parts b p) (sym F₂.are)
        (refit_smallest n corners rings boxes parts edges S corners' (λ p. ⊥) (λ p l b z. z) (λ p l b z. z)
        path₂ count k₂ stops₂ depth₂ R W₂ boxes₁ (omega (arith, S.boxes_reach, F₁.long)) (λ p l z y. one_refitted p l y) p l (λ z. z))

    -- item 9: the tables are sound for the corners that stand now
    pub moved_sound : IndexSound n corners' rings boxes₂ parts edges
    moved_sound = record {
      boxes_reach = omega (arith, S.boxes_reach, moved_long);
      parts_reach = S.parts_reach;
      edges_reach = S.edges_reach;
      places = S.places;
      root_first = S.root_first;
      root_count = S.root_count;
      halves = S.halves;
      each_once = S.each_once;
      smallest = both_refitted;
    }
