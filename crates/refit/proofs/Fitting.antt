-- A refit along a path, over lists: what it writes, and that the boxes on the path are the smallest again. Assumes nothing.
use mathlib.Core.Path.{◌≡◌, refl, sym, ap, ◌∙◌}
use mathlib.Core.List.{List, []}
use Prim.Native.Nat.{ℕ, zero, suc, ◌+◌, ◌-◌, ◌≤◌, ◌<◌}
use native.Mathlib.Numerals.{add-one}
use native.Mathlib.Decide.{ℕ_discrete}
use native.Mathlib.Omega.{arith}
use lib.IntN.{ℤ}
use lib.ListN.{length, get_or, set, length-set}
use lib.Seq.{get_or-set_same, get_or-set_other}
use Rattle.geom.specs.Boxes.{union_of, empty_rect}
use Rattle.rules.specs.Nodes.{node_count}
use Rattle.boxes.specs.Rings.{next_corner, edge_of, RingEnds}
use Rattle.boxes.specs.Boxes.{edge_box, box_of, row_of}
use Rattle.index.specs.Parts.{first_at, count_at, child_at}
use Rattle.index.specs.Sound.{Smallest, IndexSound}
use Rattle.index.proofs.Soundness.{children_later, halves_union, smallest_rect}
use Rattle.refit.specs.Paths.{Holds, Fine, Found}
use Rattle.refit.specs.Refits.{span_of, leaf_box, cut_box, joined, leaf_fitted, refitted, Refit}
use Rattle.refit.proofs.Paths.{path_rises, path_whole}

-- ---- the box of a leaf
module _ (corners : List ℤ) (edges stops : List ℕ) (f : ℕ) where
  pub leaf_none : leaf_box corners edges stops f 0 ≡ empty_rect
  unfolding leaf_box
  leaf_none = refl

  pub leaf_one : leaf_box corners edges stops f 1 ≡ span_of corners (get_or edges f 0) (get_or stops 0 0)
  unfolding leaf_box
  leaf_one = refl

  pub leaf_more : (m : ℕ) → 0 < m → leaf_box corners edges stops f (m + 1) ≡ union_of (leaf_box corners edges stops f m) (span_of corners (get_or edges (f + m) 0) (get_or stops m 0))
  unfolding leaf_box
  leaf_more zero h = absurd (omega arith)
  leaf_more (suc m) h = ap (leaf_box corners edges stops f) (add-one (suc m))

  -- it is the smallest round its edges where these end at the corners listed
  edge_span : (rings : List ℕ) (e d : ℕ) → d ≡ next_corner rings e → span_of corners e d ≡ edge_box corners rings e
  unfolding edge_box edge_of
  edge_span rings e d q = ap (span_of corners e) q

  pub leaf_smallest : (rings : List ℕ) (m : ℕ) → ((j : ℕ) → j < m → get_or stops j 0 ≡ next_corner rings (get_or edges (f + j) 0)) → leaf_box corners edges stops f m ≡ box_of corners rings edges f m
  unfolding leaf_box box_of
  leaf_smallest rings zero h = refl
  leaf_smallest rings (suc zero) h =
      let z : f + 0 ≡ f = omega arith in
      edge_span rings (get_or edges f 0) (get_or stops 0 0) (h 0 (omega arith) ∙ ap (λ (x : ℕ). next_corner rings (get_or edges x 0)) z)
  leaf_smallest rings (suc (suc m)) h =
      let ih = leaf_smallest rings (suc m) (λ j l. h j (omega arith)) in
      let e = edge_span rings (get_or edges (f + suc m) 0) (get_or stops (suc m) 0) (h (suc m) (omega arith)) in
      λ i. union_of (ih i) (e i)

-- ---- what is written, on any tables
module _ (parts : List (List ℕ)) (path : List ℕ) where
  pub joined_none : (boxes : List (List ℤ)) → joined parts path 0 boxes ≡ boxes
  unfolding joined
  joined_none boxes = refl

  pub joined_more : (k : ℕ) (boxes : List (List ℤ)) → 0 < k → joined parts path k boxes ≡ joined parts path (k - 1) (set boxes (get_or path (k - 1) 0) (row_of (cut_box boxes parts (get_or path (k - 1) 0))))
  unfolding joined
  joined_more zero boxes h = absurd (omega arith)
  joined_more (suc k) boxes h =
      let e : k ≡ suc k - 1 = omega arith in
      ap (λ (j : ℕ). joined parts path j (set boxes (get_or path j 0) (row_of (cut_box boxes parts (get_or path j 0))))) e

  joined_length : (k : ℕ) (boxes : List (List ℤ)) → length (joined parts path k boxes) ≡ length boxes
  unfolding joined
  joined_length zero boxes = refl
  joined_length (suc k) boxes =
      let row = row_of (cut_box boxes parts (get_or path k 0)) in
      joined_length k (set boxes (get_or path k 0) row) ∙ length-set boxes (get_or path k 0) row

  joined_frame : (k : ℕ) (boxes : List (List ℤ)) (p : ℕ) → ((j : ℕ) → j < k → get_or path j 0 ≡ p → ⊥) → get_or (joined parts path k boxes) p [] ≡ get_or boxes p []
  unfolding joined
  joined_frame zero boxes p off = refl
  joined_frame (suc k) boxes p off =
      let row = row_of (cut_box boxes parts (get_or path k 0)) in
      joined_frame k (set boxes (get_or path k 0) row) p (λ j l. off j (omega arith)) ∙ get_or-set_other boxes (get_or path k 0) p row [] (λ e. off k (omega arith) (sym e))

module _ (corners : List ℤ) (boxes : List (List ℤ)) (parts : List (List ℕ)) (edges path stops : List ℕ) (depth : ℕ) where
  abbrev leaf : ℕ
  leaf = get_or path (depth - 1) 0

  abbrev fitted : List (List ℤ)
  fitted = leaf_fitted corners boxes parts edges stops leaf

  -- the leaf first
  pub refit_start : joined parts path (depth - 1) fitted ≡ refitted corners boxes parts edges path stops depth
  unfolding refitted
  refit_start = refl

  refit_length : length (refitted corners boxes parts edges path stops depth) ≡ length boxes
  unfolding refitted
  refit_length = joined_length parts path (depth - 1) fitted ∙ length-set boxes leaf (row_of (leaf_box corners edges stops (first_at parts leaf) (count_at parts leaf)))

  refit_frame : 0 < depth → (p : ℕ) → ((j : ℕ) → j < depth → get_or path j 0 ≡ p → ⊥) → get_or (refitted corners boxes parts edges path stops depth) p [] ≡ get_or boxes p []
  unfolding refitted
  refit_frame some p off =
      joined_frame parts path (depth - 1) fitted p (λ j l. off j (omega arith))
      ∙ get_or-set_other boxes leaf p (row_of (leaf_box corners edges stops (first_at parts leaf) (count_at parts leaf))) [] (λ e. off (depth - 1) (omega arith) (sym e))

  -- the promise of a refit follows from its equation
  pub refit_done : (n : ℕ) → Fine n parts edges path stops depth → (boxes' : List (List ℤ)) → boxes' ≡ refitted corners boxes parts edges path stops depth → Refit n corners boxes parts edges path stops depth boxes'
  refit_done n F boxes' e = record {
    are = e;
    long = ap (length {A = List ℤ}) e ∙ refit_length;
    off_path = λ p off. ap (λ (b : List (List ℤ)). get_or b p []) e ∙ refit_frame F.some p off;
    beyond = λ p h. ap (λ (b : List (List ℤ)). get_or b p []) e ∙ refit_frame F.some p (λ j l q. past j p h l q);
  }
    where
      past : (j p : ℕ) → node_count n ≤ p → j < depth → get_or path j 0 ≡ p → ⊥
      past j p h l q = let b = F.nodes j l in omega arith

-- ---- smallest boxes, on tables that are sound for the corners as they stood before. `corners` are those that stand now
module _ (n : ℕ) (before : List ℤ) (rings : List ℕ) (boxes₀ : List (List ℤ)) (parts : List (List ℕ)) (edges : List ℕ) (S : IndexSound n before rings boxes₀ parts edges) (corners : List ℤ) where
  -- a cut node's box is the smallest if its children's are
  cut_smallest : (boxes : List (List ℤ)) (p : ℕ) → p < node_count n → node_count n ≤ length boxes → 8 < count_at parts p → Smallest corners rings edges parts boxes (child_at parts p) → Smallest corners rings edges parts boxes (child_at parts p + 1)
      → Smallest corners rings edges parts (set boxes p (row_of (cut_box boxes parts p))) p
  unfolding Smallest
  cut_smallest boxes p l long big a b =
      let x = smallest_rect corners rings edges parts boxes (child_at parts p) a in
      let y = smallest_rect corners rings edges parts boxes (child_at parts p + 1) b in
      get_or-set_same boxes p (row_of (cut_box boxes parts p)) [] (omega arith) ∙ ap row_of ((λ i. union_of (x i) (y i)) ∙ halves_union corners rings edges parts p big (S.halves p l big))

  -- a box stays the smallest while its row stays
  same_smallest : (boxes boxes' : List (List ℤ)) (p : ℕ) → get_or boxes' p [] ≡ get_or boxes p [] → Smallest corners rings edges parts boxes p → Smallest corners rings edges parts boxes' p
  unfolding Smallest
  same_smallest boxes boxes' p e s = e ∙ s

  -- some nodes are exempt, and with a node all that are above it. Where every other box off the path is the smallest before, every other
  -- box is after
  module _ (Exempt : ℕ → Type 0) (up_left : (p : ℕ) → p < node_count n → 8 < count_at parts p → Exempt (child_at parts p) → Exempt p) (up_right : (p : ℕ) → p < node_count n → 8 < count_at parts p → Exempt (child_at parts p + 1) → Exempt p) (path : List ℕ) where
    joined_smallest : (k : ℕ) (boxes : List (List ℤ)) → node_count n ≤ length boxes → ((j : ℕ) → j < k → get_or path j 0 < node_count n) → ((j : ℕ) → j < k → 8 < count_at parts (get_or path j 0)) → ((i j : ℕ) → i < j → j < k → get_or path i 0 < get_or path j 0)
        → ((p : ℕ) → p < node_count n → (Exempt p → ⊥) → ((j : ℕ) → j < k → get_or path j 0 ≡ p → ⊥) → Smallest corners rings edges parts boxes p)
        → (p : ℕ) → p < node_count n → (Exempt p → ⊥) → Smallest corners rings edges parts (joined parts path k boxes) p
    unfolding joined
    joined_smallest zero boxes long below big rise good p l x = good p l x (λ j t. absurd (omega arith))
    joined_smallest (suc k) boxes long below big rise good p l x =
        joined_smallest k boxes' long' (λ j t. below j (omega arith)) (λ j t. big j (omega arith)) (λ i j s t. rise i j s (omega arith)) (λ r m y off. step r m y off (ℕ_discrete r at)) p l x
      where
        at : ℕ
        at = get_or path k 0

        boxes' : List (List ℤ)
        boxes' = set boxes at (row_of (cut_box boxes parts at))

        long' : node_count n ≤ length boxes'
        long' = omega (arith, length-set boxes at (row_of (cut_box boxes parts at)))

        -- a child stands later than all that is still to be done
        child : (c : ℕ) → c < node_count n → at < c → (Exempt c → ⊥) → Smallest corners rings edges parts boxes c
        child c m t y = good c m y (λ j s e. go j s e (ℕ_discrete j k))
          where
            go : (j : ℕ) → j < suc k → get_or path j 0 ≡ c → Dec (j ≡ k) → ⊥
            go j s e (yes z) = let w : get_or path k 0 ≡ c = rw z at e in omega arith
            go j s e (no z) = omega (arith, rise j k (omega arith) (omega arith))

        step : (r : ℕ) → r < node_count n → (Exempt r → ⊥) → ((j : ℕ) → j < k → get_or path j 0 ≡ r → ⊥) → Dec (r ≡ at) → Smallest corners rings edges parts boxes' r
        step r m y off (yes e) =
            let y' : (Exempt at → ⊥) = rw e at y in
            let b : at < node_count n = below k (omega arith) in
            let g : 8 < count_at parts at = big k (omega arith) in
            let later = children_later n before rings boxes₀ parts edges S at b g in
            rw e (cut_smallest boxes at b long g (child (child_at parts at) (omega arith) later.0 (λ z. y' (up_left at b g z))) (child (child_at parts at + 1) later.1 (omega arith) (λ z. y' (up_right at b g z))))
        step r m y off (no d) =
            same_smallest boxes boxes' r (get_or-set_other boxes at r (row_of (cut_box boxes parts at)) [] d) (good r m y (λ j s e. go j s e (ℕ_discrete j k)))
          where
            go : (j : ℕ) → j < suc k → get_or path j 0 ≡ r → Dec (j ≡ k) → ⊥
            go j s e (yes z) = d (sym (rw z at e))
            go j s e (no z) = off j (omega arith) e

    pub refit_smallest : (count k : ℕ) (stops : List ℕ) (depth : ℕ) → RingEnds n count rings → Found n count rings parts edges k path stops depth → (boxes : List (List ℤ)) → node_count n ≤ length boxes
        → ((p : ℕ) → p < node_count n → (Exempt p → ⊥) → (Holds parts p k → ⊥) → Smallest corners rings edges parts boxes p)
        → (p : ℕ) → p < node_count n → (Exempt p → ⊥) → Smallest corners rings edges parts (refitted corners boxes parts edges path stops depth) p
    unfolding refitted Smallest
    refit_smallest count k stops depth R W boxes long good =
        joined_smallest (depth - 1) boxes' long' (λ j l. W.fine.nodes j (omega arith)) (λ j l. (W.path_to.leads.down j (omega arith)).big)
        (λ i j s t. path_rises n before rings boxes₀ parts edges S k W.place path depth W.path_to.leads i j s (omega arith))
        (λ p l x off. step p l x off (ℕ_discrete p leaf'))
      where
        leaf' : ℕ
        leaf' = get_or path (depth - 1) 0

        row : List ℤ
        row = row_of (leaf_box corners edges stops (first_at parts leaf') (count_at parts leaf'))

        boxes' : List (List ℤ)
        boxes' = set boxes leaf' row

        long' : node_count n ≤ length boxes'
        long' = omega (arith, length-set boxes leaf' row)

        here : leaf' < node_count n
        here = W.path_to.leaf.node

        fitting : Smallest corners rings edges parts boxes' leaf'
        fitting = get_or-set_same boxes leaf' row [] (omega (arith, here)) ∙ ap row_of (leaf_smallest corners edges stops (first_at parts leaf') rings (count_at parts leaf') (W.stops_are.named R))

        step : (p : ℕ) → p < node_count n → (Exempt p → ⊥) → ((j : ℕ) → j < depth - 1 → get_or path j 0 ≡ p → ⊥) → Dec (p ≡ leaf') → Smallest corners rings edges parts boxes' p
        step p l x off (yes e) = rw e fitting
        step p l x off (no d) = same_smallest boxes boxes' p (get_or-set_other boxes leaf' p row [] d) (good p l x (λ h. missed h))
          where
            missed : Holds parts p k → ⊥
            missed h =
                let (j, t, e) = path_whole n before rings boxes₀ parts edges S k W.place path depth W.path_to p l h in
                go j t e (ℕ_discrete j (depth - 1))
              where
                go : (j : ℕ) → j < depth → get_or path j 0 ≡ p → Dec (j ≡ depth - 1) → ⊥
                go j t e (yes z) = d (sym (rw z at e))
                go j t e (no z) = off j (omega arith) e
