-- The tables of numbers that a list of nodes holds: their length, a read, a store. Assumes nothing.
use mathlib.Core.Path.{◌≡◌, refl, ap}
use mathlib.Core.List.{List, [], ◌∷◌}
use Prim.Native.Nat.{ℕ, zero, suc, ◌<◌}
use native.Mathlib.Omega.{arith}
use lib.IntN.{ℤ}
use lib.ListN.{length, get_or, set}
use Rattle.geom.specs.declared.Rect.{Rect}
use Rattle.boxes.specs.Boxes.{rect_at, row_of}
use Rattle.index.specs.Parts.{first_at, count_at, child_at, part_row}
use Rattle.nodes.specs.declared.Node.{Node}
use Rattle.nodes.specs.Nodes.{no_node, in_box, box_rows, part_rows}

-- a node's part as a row
abbrev pub part_of : Node → List ℕ
part_of m = part_row m.part.first m.part.count m.part.child

pub box_rows_length : (nodes : List Node) → length (box_rows nodes) ≡ length nodes
unfolding box_rows
box_rows_length [] = refl
box_rows_length (m ∷ nodes) = ap suc (box_rows_length nodes)

pub part_rows_length : (nodes : List Node) → length (part_rows nodes) ≡ length nodes
unfolding part_rows
part_rows_length [] = refl
part_rows_length (m ∷ nodes) = ap suc (part_rows_length nodes)

-- ---- a read: the node at place p is the rows at place p
pub box_row : (nodes : List Node) (p : ℕ) → p < length nodes → get_or (box_rows nodes) p [] ≡ row_of ((get_or nodes p no_node).rect)
unfolding box_rows
box_row [] p l = absurd (omega arith)
box_row (m ∷ nodes) zero l = refl
box_row (m ∷ nodes) (suc p) l = box_row nodes p (omega arith)

pub part_row_lem : (nodes : List Node) (p : ℕ) → p < length nodes → get_or (part_rows nodes) p [] ≡ part_of (get_or nodes p no_node)
unfolding part_rows
part_row_lem [] p l = absurd (omega arith)
part_row_lem (m ∷ nodes) zero l = refl
part_row_lem (m ∷ nodes) (suc p) l = part_row_lem nodes p (omega arith)

module _ (nodes : List Node) (p : ℕ) (l : p < length nodes) where
  pub rect_is : rect_at (box_rows nodes) p ≡ (get_or nodes p no_node).rect
  rect_is = ap as_rect (box_row nodes p l)
    where
      as_rect : List ℤ → Rect
      as_rect row = rect_at (row ∷ []) 0

  pub first_is : first_at (part_rows nodes) p ≡ (get_or nodes p no_node).part.first
  first_is = ap (λ (row : List ℕ). get_or row 0 0) (part_row_lem nodes p l)

  pub count_is : count_at (part_rows nodes) p ≡ (get_or nodes p no_node).part.count
  count_is = ap (λ (row : List ℕ). get_or row 1 0) (part_row_lem nodes p l)

  pub child_is : child_at (part_rows nodes) p ≡ (get_or nodes p no_node).part.child
  child_is = ap (λ (row : List ℕ). get_or row 2 0) (part_row_lem nodes p l)

-- ---- a store: the rows at place p, and no other
pub box_rows_set : (nodes : List Node) (p : ℕ) (m : Node) → box_rows (set nodes p m) ≡ set (box_rows nodes) p (row_of m.rect)
unfolding box_rows
box_rows_set [] p m = refl
box_rows_set (x ∷ nodes) zero m = refl
box_rows_set (x ∷ nodes) (suc p) m = ap (λ (rows : List (List ℤ)). row_of x.rect ∷ rows) (box_rows_set nodes p m)

pub part_rows_set : (nodes : List Node) (p : ℕ) (m : Node) → part_rows (set nodes p m) ≡ set (part_rows nodes) p (part_of m)
unfolding part_rows
part_rows_set [] p m = refl
part_rows_set (x ∷ nodes) zero m = refl
part_rows_set (x ∷ nodes) (suc p) m = ap (λ (rows : List (List ℕ)). part_of x ∷ rows) (part_rows_set nodes p m)

-- another box leaves the parts as they are, at any place
pub part_rows_kept : (nodes : List Node) (p : ℕ) (r : Rect) → part_rows (set nodes p (in_box (get_or nodes p no_node) r)) ≡ part_rows nodes
unfolding part_rows
part_rows_kept [] p r = refl
part_rows_kept (x ∷ nodes) zero r = refl
part_rows_kept (x ∷ nodes) (suc p) r = ap (λ (rows : List (List ℕ)). part_of x ∷ rows) (part_rows_kept nodes p r)
