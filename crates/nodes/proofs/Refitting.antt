-- A refit of one node, and of a path node by node, as crate `refit` does it over tables of numbers. Assumes nothing.
use mathlib.Core.Path.{◌≡◌, refl, sym, ap, ◌∙◌, subst}
use mathlib.Core.Bool.{true, ◌&&◌}
use mathlib.Core.List.{List, []}
use Prim.Native.Nat.{ℕ, zero, suc, ◌+◌, ◌-◌, ◌*◌, ◌≤◌, ◌<◌}
use native.Mathlib.Omega.{arith}
use borrow.Author.Tests.{lt-ltb}
use lib.IntN.{ℤ}
use lib.ListN.{length, get_or, set, length-set}
use lib.Seq.{get_or-set_same}
use Rattle.geom.specs.declared.Rect.{Rect}
use Rattle.geom.specs.Boxes.{union_of}
use Rattle.rules.specs.Nodes.{node_count}
use Rattle.boxes.specs.Rings.{RingEnds}
use Rattle.boxes.specs.Boxes.{box_of, rect_at, row_of, Names}
use Rattle.index.specs.Parts.{first_at, count_at, child_at}
use Rattle.index.specs.Sound.{Smallest, IndexSound}
use Rattle.index.proofs.Soundness.{children_later, halves_union, part_names, smallest_rect}
use Rattle.refit.specs.Paths.{Holds, Stops, Found}
use Rattle.refit.specs.Refits.{cut_box, joined, leaf_fitted, refitted}
use Rattle.refit.proofs.Fitting.{leaf_smallest, refit_smallest}
use Rattle.nodes.specs.declared.Node.{Node}
use Rattle.nodes.specs.Nodes.{no_node, fitted_cut, fitted_leaf, Fits, box_rows, part_rows, leaf_refitted, cut_refitted, cuts_refitted, path_refitted}
use Rattle.nodes.specs.Answers.{is_listed, leaf_sound, cut_sound}
use Rattle.nodes.proofs.Tests.{fits_test}
use Rattle.nodes.proofs.Rows.{box_rows_length, part_rows_length, box_rows_set, part_rows_kept, rect_is, first_is, count_is, child_is}

-- ---- one node by its edges
module _ (corners : List ℤ) (rings edges : List ℕ) (nodes : List Node) (p : ℕ) (l : p < length nodes) where
  abbrev parts : List (List ℕ)
  parts = part_rows nodes

  abbrev after : List Node
  after = leaf_refitted corners rings edges nodes p

  abbrev smallest : Rect
  smallest = box_of corners rings edges (first_at parts p) (count_at parts p)

  -- its box is stored, no other row is written, and all parts stay
  pub leaf_boxes : box_rows after ≡ set (box_rows nodes) p (row_of smallest)
  leaf_boxes =
      box_rows_set nodes p (fitted_leaf corners rings edges (get_or nodes p no_node))
      ∙ (λ i. set (box_rows nodes) p (row_of (box_of corners rings edges (sym (first_is nodes p l) i) (sym (count_is nodes p l) i))))

  pub leaf_parts : part_rows after ≡ parts
  leaf_parts = part_rows_kept nodes p (box_of corners rings edges (get_or nodes p no_node).part.first (get_or nodes p no_node).part.count)

  -- it is the smallest
  pub leaf_refit_smallest : Smallest corners rings edges (part_rows after) (box_rows after) p
  unfolding Smallest
  leaf_refit_smallest =
      ap (λ (rows : List (List ℤ)). get_or rows p []) leaf_boxes ∙ get_or-set_same (box_rows nodes) p (row_of smallest) [] (omega (arith, box_rows_length nodes))
      ∙ ap (λ (rows : List (List ℕ)). row_of (box_of corners rings edges (first_at rows p) (count_at rows p))) (sym leaf_parts)

  -- crate `refit`'s refit of a leaf, where the corners at which its edges end are listed
  pub leaf_alike : (n count : ℕ) (stops : List ℕ) → RingEnds n count rings → Stops n count rings edges (first_at parts p) (count_at parts p) stops → box_rows after ≡ leaf_fitted corners (box_rows nodes) parts edges stops p
  leaf_alike n count stops ends S = leaf_boxes ∙ ap (λ (r : Rect). set (box_rows nodes) p (row_of r)) (sym (leaf_smallest corners edges stops (first_at parts p) rings (count_at parts p) (S.named ends)))

-- ---- one node by its children
module _ (nodes : List Node) (p : ℕ) (l : p < length nodes) (k : (get_or nodes p no_node).part.child + 1 < length nodes) where
  abbrev child : ℕ
  child = (get_or nodes p no_node).part.child

  -- crate `refit`'s refit of a cut node; all parts stay
  pub cut_alike : box_rows (cut_refitted nodes p) ≡ set (box_rows nodes) p (row_of (cut_box (box_rows nodes) (part_rows nodes) p))
  cut_alike =
      let left = rect_is nodes child (omega arith) in
      let right = rect_is nodes (child + 1) k in
      box_rows_set nodes p (fitted_cut (get_or nodes p no_node) (get_or nodes child no_node) (get_or nodes (child + 1) no_node))
      ∙ (λ i. set (box_rows nodes) p (row_of (union_of (sym left i) (sym right i))))
      ∙ ap (λ (c : ℕ). set (box_rows nodes) p (row_of (union_of (rect_at (box_rows nodes) c) (rect_at (box_rows nodes) (c + 1))))) (sym (child_is nodes p l))

  pub cut_parts : part_rows (cut_refitted nodes p) ≡ part_rows nodes
  cut_parts = part_rows_kept nodes p (union_of ((get_or nodes child no_node).rect) ((get_or nodes (child + 1) no_node).rect))

-- ---- on tables that are sound for the corners as they stood before. `corners` are those that stand now
module _ (n : ℕ) (before : List ℤ) (rings : List ℕ) (boxes₀ : List (List ℤ)) (edges : List ℕ) (nodes : List Node) (S : IndexSound n before rings boxes₀ (part_rows nodes) edges) (corners : List ℤ) where
  -- every node is listed, and neither refit is refused at a node that it is for
  listed : (p : ℕ) → p < node_count n → p < length nodes
  listed p l = omega (arith, S.parts_reach, part_rows_length nodes)

  leaf_fits : (count : ℕ) → 2 * n ≤ length corners → RingEnds n count rings → (p : ℕ) → p < node_count n → Fits n count corners rings edges (get_or nodes p no_node)
  leaf_fits count reach ends p l =
      let first = first_is nodes p (listed p l) in
      let size = count_is nodes p (listed p l) in
      record {
        corners_reach = reach;
        ends = ends;
        names = subst (Names n edges (get_or nodes p no_node).part.first) size (subst (λ (f : ℕ). Names n edges f (count_at (part_rows nodes) p)) first (part_names n before rings boxes₀ (part_rows nodes) edges S p l));
      }

  children_listed : (p : ℕ) → p < node_count n → 8 < count_at (part_rows nodes) p → (get_or nodes p no_node).part.child + 1 < length nodes
  children_listed p l big =
      let later = (children_later n before rings boxes₀ (part_rows nodes) edges S p l big).1 in
      omega (arith, S.parts_reach, part_rows_length nodes, child_is nodes p (listed p l))

  pub place_sound : (p : ℕ) → p < node_count n → is_listed nodes p ≡ true
  place_sound p l = lt-ltb p (length nodes) (listed p l)

  pub leaf_sound_lem : (count : ℕ) → 2 * n ≤ length corners → RingEnds n count rings → (p : ℕ) → p < node_count n → leaf_sound n count corners rings edges nodes p ≡ true
  leaf_sound_lem count reach ends p l = λ i. place_sound p l i && fits_test n count corners rings edges (get_or nodes p no_node) (leaf_fits count reach ends p l) i

  pub cut_sound_lem : (p : ℕ) → p < node_count n → 8 < count_at (part_rows nodes) p → cut_sound nodes p ≡ true
  cut_sound_lem p l big = λ i. place_sound p l i && (lt-ltb 8 (get_or nodes p no_node).part.count (omega (arith, big, count_is nodes p (listed p l))) i && lt-ltb ((get_or nodes p no_node).part.child + 1) (length nodes) (children_listed p l big) i)

  -- a cut node's box is the smallest if its children's are
  pub cut_refit_smallest : (p : ℕ) → p < node_count n → 8 < count_at (part_rows nodes) p → Smallest corners rings edges (part_rows nodes) (box_rows nodes) (child_at (part_rows nodes) p) → Smallest corners rings edges (part_rows nodes) (box_rows nodes) (child_at (part_rows nodes) p + 1)
      → Smallest corners rings edges (part_rows (cut_refitted nodes p)) (box_rows (cut_refitted nodes p)) p
  unfolding Smallest
  cut_refit_smallest p l big left right =
      let parts = part_rows nodes in
      let inside = listed p l in
      let asked = children_listed p l big in
      let x = smallest_rect corners rings edges parts (box_rows nodes) (child_at parts p) left in
      let y = smallest_rect corners rings edges parts (box_rows nodes) (child_at parts p + 1) right in
      ap (λ (rows : List (List ℤ)). get_or rows p []) (cut_alike nodes p inside asked) ∙ get_or-set_same (box_rows nodes) p (row_of (cut_box (box_rows nodes) parts p)) [] (omega (arith, box_rows_length nodes))
      ∙ ap row_of ((λ i. union_of (x i) (y i)) ∙ halves_union corners rings edges parts p big (S.halves p l big))
      ∙ ap (λ (rows : List (List ℕ)). row_of (box_of corners rings edges (first_at rows p) (count_at rows p))) (sym (cut_parts nodes p inside asked))

-- ---- a path, node by node
cuts_alike : (path : List ℕ) (k : ℕ) (nodes : List Node) → ((j : ℕ) → j < k → get_or path j 0 < length nodes) → ((j : ℕ) → j < k → child_at (part_rows nodes) (get_or path j 0) + 1 < length nodes)
    → (box_rows (cuts_refitted path k nodes) ≡ joined (part_rows nodes) path k (box_rows nodes)) × (part_rows (cuts_refitted path k nodes) ≡ part_rows nodes)
unfolding cuts_refitted joined
cuts_alike path zero nodes below kids = (refl, refl)
cuts_alike path (suc k) nodes below kids =
    let p = get_or path k 0 in
    let after = cut_refitted nodes p in
    let inside = below k (omega arith) in
    let asked : (get_or nodes p no_node).part.child + 1 < length nodes = omega (arith, kids k (omega arith), child_is nodes p inside) in
    let boxes = cut_alike nodes p inside asked in
    let parts = cut_parts nodes p inside asked in
    let long : length after ≡ length nodes = length-set nodes p (fitted_cut (get_or nodes p no_node) (get_or nodes (get_or nodes p no_node).part.child no_node) (get_or nodes ((get_or nodes p no_node).part.child + 1) no_node)) in
    let rest = cuts_alike path k after (λ j t. let b = below j (omega arith) in omega arith) (λ j t. let c = kids j (omega arith) in omega (arith, ap (λ (rows : List (List ℕ)). child_at rows (get_or path j 0)) parts)) in
    (rest.0 ∙ (λ i. joined (parts i) path k (boxes i)), rest.1 ∙ parts)

-- along a path that crate `refit` found, the boxes are those that it makes of the tables of numbers, and all parts stay
module _ (n count : ℕ) (corners : List ℤ) (rings edges : List ℕ) (nodes : List Node) (k : ℕ) (path stops : List ℕ) (depth : ℕ) (ends : RingEnds n count rings) (way : Found n count rings (part_rows nodes) edges k path stops depth) where
  abbrev leaf : ℕ
  leaf = get_or path (depth - 1) 0

  abbrev by_edges : List Node
  by_edges = leaf_refitted corners rings edges nodes leaf

  leaf_listed : leaf < length nodes
  leaf_listed = omega (arith, way.fine.nodes (depth - 1) (omega (arith, way.fine.some)), way.fine.parts_reach, part_rows_length nodes)

  above_alike : (box_rows (path_refitted corners rings edges nodes path depth) ≡ joined (part_rows by_edges) path (depth - 1) (box_rows by_edges)) × (part_rows (path_refitted corners rings edges nodes path depth) ≡ part_rows by_edges)
  above_alike =
      let long = length-set nodes leaf (fitted_leaf corners rings edges (get_or nodes leaf no_node)) in
      let reach = way.fine.parts_reach in
      let same = part_rows_length nodes in
      cuts_alike path (depth - 1) by_edges (λ j t. let b = way.fine.nodes j (omega arith) in omega arith)
      (λ j t. let c = way.fine.children j (omega arith) in omega (arith, ap (λ (rows : List (List ℕ)). child_at rows (get_or path j 0)) (leaf_parts corners rings edges nodes leaf leaf_listed)))

  pub path_alike : box_rows (path_refitted corners rings edges nodes path depth) ≡ refitted corners (box_rows nodes) (part_rows nodes) edges path stops depth
  unfolding refitted
  path_alike =
      let parts = leaf_parts corners rings edges nodes leaf leaf_listed in
      let boxes = leaf_alike corners rings edges nodes leaf leaf_listed n count stops ends way.stops_are in
      above_alike.0 ∙ (λ i. joined (parts i) path (depth - 1) (boxes i))

  pub path_parts : part_rows (path_refitted corners rings edges nodes path depth) ≡ part_rows nodes
  path_parts = above_alike.1 ∙ leaf_parts corners rings edges nodes leaf leaf_listed

  -- where the boxes off the path are the smallest for the corners as they stand now, every box is after it
  pub path_smallest : (before : List ℤ) (boxes₀ : List (List ℤ)) → IndexSound n before rings boxes₀ (part_rows nodes) edges → node_count n ≤ length nodes → ((p : ℕ) → p < node_count n → (Holds (part_rows nodes) p k → ⊥) → Smallest corners rings edges (part_rows nodes) (box_rows nodes) p)
      → (p : ℕ) → p < node_count n → Smallest corners rings edges (part_rows (path_refitted corners rings edges nodes path depth)) (box_rows (path_refitted corners rings edges nodes path depth)) p
  path_smallest before boxes₀ S long good p l =
      let fitted : Smallest corners rings edges (part_rows nodes) (refitted corners (box_rows nodes) (part_rows nodes) edges path stops depth) p =
      refit_smallest n before rings boxes₀ (part_rows nodes) edges S corners (λ _. ⊥) (λ _ _ _ x. x) (λ _ _ _ x. x) path count k stops depth ends way (box_rows nodes) (omega (arith, box_rows_length nodes)) (λ q t _ off. good q t off) p l (λ x. x) in
      subst (λ (rows : List (List ℕ)). Smallest corners rings edges rows (box_rows (path_refitted corners rings edges nodes path depth)) p) (sym path_parts)
      (subst (λ (rows : List (List ℤ)). Smallest corners rings edges (part_rows nodes) rows p) (sym path_alike) fitted)
