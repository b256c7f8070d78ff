-- What the builder makes of the tables (document 01, item 5).
use Rattle.std.specs.Prelude.{◌≡◌, List, [], ℕ, ◌+◌, ◌-◌, ◌*◌, ◌/◌, ◌≤◌, ◌<◌, ℤ, length, get_or, set}
use Rattle.geom.specs.declared.Rect.{Rect}
use Rattle.rules.specs.Nodes.{node_count}
use Rattle.boxes.specs.Boxes.{box_of, rect_at, row_of}
use Rattle.cut.specs.Keys.{axis_of, CutRule, CutPart}
use Rattle.index.specs.Parts.{first_at, count_at, child_at, part_row, cut_edges}
use Rattle.index.specs.Sound.{IndexSound}

-- the first n entries are 0, 1, .. n − 1, and the rest is as it was
pub record Numbered (n : ℕ) (xs ys : List ℕ) : Type 0 where
  pub long : length ys ≡ length xs
  pub inside : (k : ℕ) → k < n → get_or ys k 0 ≡ k
  pub after : (k : ℕ) → n ≤ k → get_or ys k 0 ≡ get_or xs k 0

-- ys is as long as xs and has its entries from place m on: of working space only the first m numbers are written
pub record KeptFrom (m : ℕ) (xs ys : List ℕ) : Type 0 where
  pub long : length ys ≡ length xs
  pub rest : (k : ℕ) → m ≤ k → get_or ys k 0 ≡ get_or xs k 0

-- ys has a at place u, b at place u + 1 and xs's entries elsewhere
pub record Two (xs : List ℕ) (u a b : ℕ) (ys : List ℕ) : Type 0 where
  pub long : length ys ≡ length xs
  pub before : (k : ℕ) → k < u → get_or ys k 0 ≡ get_or xs k 0
  pub at : get_or ys u 0 ≡ a
  pub next : get_or ys (u + 1) 0 ≡ b
  pub after : (k : ℕ) → u + 1 < k → get_or ys k 0 ≡ get_or xs k 0

-- the node at p with its two parts, whose boxes are given, at the places l and r
pub record Children (boxes : List (List ℤ)) (parts : List (List ℕ)) (p l r f half rest : ℕ) (left right : Rect) (boxes' : List (List ℤ)) (parts' : List (List ℕ)) : Type 0 where
  pub boxes_are : boxes' ≡ set (set boxes l (row_of left)) r (row_of right)
  pub parts_are : parts' ≡ set (set (set parts p (part_row f (half + rest) l)) l (part_row f half 0)) r (part_row (f + half) rest 0)

-- the node at p is cut, its parts take the places u and u + 1, and so many keys are read
pub record NodeCut (corners : List ℤ) (rings : List ℕ) (boxes : List (List ℤ)) (parts : List (List ℕ)) (edges : List ℕ) (p u : ℕ) (boxes' : List (List ℤ)) (parts' : List (List ℕ)) (edges' : List ℕ) (reads : ℕ) : Type 0 where
  pub cut : CutPart corners rings (axis_of (rect_at boxes p)) (first_at parts p) (count_at parts p) edges edges' reads
  pub grown : Children boxes parts p u (u + 1) (first_at parts p) (count_at parts p / 2) (count_at parts p - count_at parts p / 2)
      (box_of corners rings edges' (first_at parts p) (count_at parts p / 2)) (box_of corners rings edges' (first_at parts p + count_at parts p / 2) (count_at parts p - count_at parts p / 2)) boxes' parts'

-- tables with the next free place u and a count of reads, reached from others, whose next free place is 1, by cuts of nodes
pub data Cuts (corners : List ℤ) (rings : List ℕ) (boxes : List (List ℤ)) (parts : List (List ℕ)) (edges : List ℕ) : List (List ℤ) → List (List ℕ) → List ℕ → ℕ → ℕ → Type 0 where
  uncut : Cuts corners rings boxes parts edges boxes parts edges 1 0
  then : {boxes' boxes'' : List (List ℤ)} {parts' parts'' : List (List ℕ)} {edges' edges'' : List ℕ} {u reads more : ℕ} (p : ℕ) → p < u → 8 < count_at parts' p → Cuts corners rings boxes parts edges boxes' parts' edges' u reads
      → NodeCut corners rings boxes' parts' edges' p u boxes'' parts'' edges'' more → Cuts corners rings boxes parts edges boxes'' parts'' edges'' (u + 2) (reads + more)

-- the reads of a build are those of its cuts, from tables that hold the root alone on
pub record BuildReads (n : ℕ) (corners : List ℤ) (rings : List ℕ) (boxes : List (List ℤ)) (parts : List (List ℕ)) (edges : List ℕ) (boxes' : List (List ℤ)) (parts' : List (List ℕ)) (edges' : List ℕ) (nodes reads : ℕ) : Type 0 where
  pub numbered : List ℕ
  pub numbers : Numbered n edges numbered
  pub cuts : Cuts corners rings (set boxes 0 (row_of (box_of corners rings numbered 0 n))) (set parts 0 (part_row 0 n 0)) numbered boxes' parts' edges' nodes reads

-- the index over n edges: N(n) nodes, sound tables, the cut rule at every cut node, 0 as a leaf's child, and nothing else written; the
-- reads of keys counted, at most 65 an edge of a cut node, and at most 17 levels of nodes are cut
pub record Built (n : ℕ) (corners : List ℤ) (rings : List ℕ) (boxes : List (List ℤ)) (parts : List (List ℕ)) (edges : List ℕ) (boxes' : List (List ℤ)) (parts' : List (List ℕ)) (edges' : List ℕ) (nodes reads : ℕ) : Type 0 where
  pub counted : nodes ≡ node_count n
  pub sound : IndexSound n corners rings boxes' parts' edges'
  pub cut_rule : (p : ℕ) → p < node_count n → 8 < count_at parts' p → CutRule corners rings (axis_of (rect_at boxes' p)) (first_at parts' p) (count_at parts' p) edges'
  pub leaves : (p : ℕ) → p < node_count n → count_at parts' p ≤ 8 → child_at parts' p ≡ 0
  pub boxes_long : length boxes' ≡ length boxes
  pub parts_long : length parts' ≡ length parts
  pub edges_long : length edges' ≡ length edges
  pub boxes_rest : (p : ℕ) → node_count n ≤ p → get_or boxes' p [] ≡ get_or boxes p []
  pub parts_rest : (p : ℕ) → node_count n ≤ p → get_or parts' p [] ≡ get_or parts p []
  pub edges_rest : (k : ℕ) → n ≤ k → get_or edges' k 0 ≡ get_or edges k 0
  pub read : BuildReads n corners rings boxes parts edges boxes' parts' edges' nodes reads
  pub reads_cut : reads ≤ 65 * cut_edges parts' (node_count n)
  pub reads_few : reads ≤ 65 * (17 * n)
