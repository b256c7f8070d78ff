-- When the tables of an index are sound (document 01, item 9). The cut rule and a leaf's child are no part of it.
use Rattle.std.specs.Prelude.{◌≡◌, List, [], ℕ, ◌≤◌, ◌<◌, eqb, ℤ, length, get_or, take}
use Rattle.rules.specs.Lists.{count_of}
use Rattle.rules.specs.Nodes.{node_count}
use Rattle.boxes.specs.Boxes.{box_of, row_of}
use Rattle.index.specs.Parts.{first_at, count_at, Halves, Laid}

-- "each box is smallest round its edges": the row at place p is that of the smallest box round the node's part of the edge list, so
-- that two tables of smallest boxes agree row by row
unfoldable pub Smallest : List ℤ → List ℕ → List ℕ → List (List ℕ) → List (List ℤ) → ℕ → Type 0
Smallest corners rings edges parts boxes p = get_or boxes p [] ≡ row_of (box_of corners rings edges (first_at parts p) (count_at parts p))

-- the index over the n edges of the plan in the corner and ring tables
pub record IndexSound (n : ℕ) (corners : List ℤ) (rings : List ℕ) (boxes : List (List ℤ)) (parts : List (List ℕ)) (edges : List ℕ) : Type 0 where
  -- none is shorter than the state says
  pub boxes_reach : node_count n ≤ length boxes
  pub parts_reach : node_count n ≤ length parts
  pub edges_reach : n ≤ length edges
  -- nodes have item 5's counts and places
  pub places : Laid parts 0 1 (node_count n)
  -- the root's part of the edge list is the whole of it
  pub root_first : first_at parts 0 ≡ 0
  pub root_count : count_at parts 0 ≡ n
  -- and a cut node's two parts, side by side and left first, fill their node's
  pub halves : (p : ℕ) → p < node_count n → 8 < count_at parts p → Halves parts p
  -- the edge list holds each edge number once
  pub each_once : (e : ℕ) → e < n → count_of (λ x. eqb x e) (take n edges) ≡ 1
  -- each box is smallest round its edges
  pub smallest : (p : ℕ) → p < node_count n → Smallest corners rings edges parts boxes p
