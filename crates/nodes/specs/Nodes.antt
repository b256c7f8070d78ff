-- The node table as a list of records, and the two tables of numbers that it holds (document 01, items 5 and 9).
use Rattle.std.specs.Prelude.{List, [], ◌∷◌, ℕ, zero, suc, ◌+◌, ◌-◌, ◌*◌, ◌≤◌, ℤ, pos, length, get_or, set}
use Rattle.geom.specs.declared.Rect.{Rect}
use Rattle.geom.specs.Boxes.{union_of}
use Rattle.boxes.specs.Boxes.{box_of, row_of, Names}
use Rattle.boxes.specs.Rings.{RingEnds}
use Rattle.index.specs.Parts.{part_row}
use Rattle.nodes.specs.declared.Node.{Node}

-- what stands past the end of a list of nodes
abbrev pub no_node : Node
no_node =
    record {
      rect = record { min = record { x = pos 0; y = pos 0 }; max = record { x = pos 0; y = pos 0 } };
      part = record { first = 0; count = 0; child = 0 };
    }

-- a node in another box
abbrev pub in_box : Node → Rect → Node
in_box m r = record { rect = r; part = m.part }

-- the table of boxes and the table of parts that a list of nodes holds
unfoldable pub box_rows : List Node → List (List ℤ)
box_rows [] = []
box_rows (m ∷ nodes) = row_of m.rect ∷ box_rows nodes

unfoldable pub part_rows : List Node → List (List ℕ)
part_rows [] = []
part_rows (m ∷ nodes) = part_row m.part.first m.part.count m.part.child ∷ part_rows nodes

-- what the box of a node's part is made of lies in the tables: n corners, the ends of their rings, and edge numbers below n
pub record Fits (n count : ℕ) (corners : List ℤ) (rings edges : List ℕ) (m : Node) : Type 0 where
  pub corners_reach : 2 * n ≤ length corners
  pub ends : RingEnds n count rings
  pub names : Names n edges m.part.first m.part.count

-- a node in the smallest box round the edges of its part
abbrev pub fitted_leaf : List ℤ → List ℕ → List ℕ → Node → Node
fitted_leaf corners rings edges m = in_box m (box_of corners rings edges m.part.first m.part.count)

-- a node in the union of its two children's boxes
abbrev pub fitted_cut : Node → Node → Node → Node
fitted_cut m left right = in_box m (union_of left.rect right.rect)

-- the node at place p by its edges
abbrev pub leaf_refitted : List ℤ → List ℕ → List ℕ → List Node → ℕ → List Node
leaf_refitted corners rings edges nodes p = set nodes p (fitted_leaf corners rings edges (get_or nodes p no_node))

-- the node at place p by its two children
abbrev pub cut_refitted : List Node → ℕ → List Node
cut_refitted nodes p = set nodes p (fitted_cut (get_or nodes p no_node) (get_or nodes (get_or nodes p no_node).part.child no_node) (get_or nodes ((get_or nodes p no_node).part.child + 1) no_node))

-- the first k nodes of a path, each by its two children, the lowest first
unfoldable pub cuts_refitted : List ℕ → ℕ → List Node → List Node
cuts_refitted path zero nodes = nodes
cuts_refitted path (suc k) nodes = cuts_refitted path k (cut_refitted nodes (get_or path k 0))

-- the nodes of a path of so many, the leaf by its edges and then each above it by its children
abbrev pub path_refitted : List ℤ → List ℕ → List ℕ → List Node → List ℕ → ℕ → List Node
path_refitted corners rings edges nodes path depth = cuts_refitted path (depth - 1) (leaf_refitted corners rings edges nodes (get_or path (depth - 1) 0))
