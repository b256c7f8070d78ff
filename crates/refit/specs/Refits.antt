-- What a refit makes of the boxes (document 01, item 9 and "The correction book"). On any tables.
use Rattle.std.specs.Prelude.{◌≡◌, List, [], ℕ, zero, suc, ◌+◌, ◌-◌, ◌≤◌, ◌<◌, ℤ, length, get_or, set}
use Rattle.geom.specs.declared.Rect.{Rect}
use Rattle.geom.specs.Boxes.{rect_of, union_of, empty_rect}
use Rattle.rules.specs.Nodes.{node_count}
use Rattle.rules.specs.Plans.{corner_at}
use Rattle.boxes.specs.Boxes.{rect_at, row_of}
use Rattle.index.specs.Parts.{first_at, count_at, child_at}

-- the box of two corners
abbrev pub span_of : List ℤ → ℕ → ℕ → Rect
span_of corners a b = rect_of (corner_at corners a) (corner_at corners b)

-- the smallest box round the edges at the m places from f on, which end at the corners listed; item 1's with no edges
unfoldable pub leaf_box : List ℤ → List ℕ → List ℕ → ℕ → ℕ → Rect
leaf_box corners edges stops f zero = empty_rect
leaf_box corners edges stops f (suc zero) = span_of corners (get_or edges f 0) (get_or stops 0 0)
leaf_box corners edges stops f (suc (suc m)) = union_of (leaf_box corners edges stops f (suc m)) (span_of corners (get_or edges (f + suc m) 0) (get_or stops (suc m) 0))

-- the box of a cut node by its two children's
abbrev pub cut_box : List (List ℤ) → List (List ℕ) → ℕ → Rect
cut_box boxes parts p = union_of (rect_at boxes (child_at parts p)) (rect_at boxes (child_at parts p + 1))

-- the first k nodes of a path, each given the box by its children's, the lowest first
unfoldable pub joined : List (List ℕ) → List ℕ → ℕ → List (List ℤ) → List (List ℤ)
joined parts path zero boxes = boxes
joined parts path (suc k) boxes = joined parts path k (set boxes (get_or path k 0) (row_of (cut_box boxes parts (get_or path k 0))))

-- a leaf given the box round its edges
abbrev pub leaf_fitted : List ℤ → List (List ℤ) → List (List ℕ) → List ℕ → List ℕ → ℕ → List (List ℤ)
leaf_fitted corners boxes parts edges stops leaf = set boxes leaf (row_of (leaf_box corners edges stops (first_at parts leaf) (count_at parts leaf)))

-- the boxes after a refit along a path of so many nodes: the leaf's from its edges, then each node's above it from its children's
unfoldable pub refitted : List ℤ → List (List ℤ) → List (List ℕ) → List ℕ → List ℕ → List ℕ → ℕ → List (List ℤ)
refitted corners boxes parts edges path stops depth = joined parts path (depth - 1) (leaf_fitted corners boxes parts edges stops (get_or path (depth - 1) 0))

-- so the boxes are at exit, and no other row is written
pub record Refit (n : ℕ) (corners : List ℤ) (boxes : List (List ℤ)) (parts : List (List ℕ)) (edges path stops : List ℕ) (depth : ℕ) (boxes' : List (List ℤ)) : Type 0 where
  pub are : boxes' ≡ refitted corners boxes parts edges path stops depth
  pub long : length boxes' ≡ length boxes
  pub off_path : (p : ℕ) → ((j : ℕ) → j < depth → get_or path j 0 ≡ p → ⊥) → get_or boxes' p [] ≡ get_or boxes p []
  pub beyond : (p : ℕ) → node_count n ≤ p → get_or boxes' p [] ≡ get_or boxes p []
