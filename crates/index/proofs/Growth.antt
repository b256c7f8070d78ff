-- The tables after a cut, place by place. Assumes nothing.
use mathlib.Core.Path.{◌≡◌, refl, sym, ◌∙◌, ap}
use mathlib.Core.List.{List, []}
use Prim.Native.Nat.{ℕ, ◌+◌, ◌-◌, ◌/◌, ◌≤◌, ◌<◌}
use native.Mathlib.Decide.{ℕ_discrete}
use native.Mathlib.Omega.{arith}
use lib.IntN.{ℤ}
use lib.ListN.{length, get_or, set, length-set}
use lib.Seq.{get_or-set_same, get_or-set_other}
use Rattle.geom.specs.declared.Rect.{Rect}
use Rattle.boxes.specs.Boxes.{row_of}
use Rattle.index.specs.Parts.{first_at, count_at, child_at, part_row}
use Rattle.index.specs.Build.{Children}

-- node p is cut: its children take the places u and u + 1, with the boxes given, and nothing else changes
pub record Grows (boxes : List (List ℤ)) (parts : List (List ℕ)) (p u : ℕ) (left right : Rect) (boxes' : List (List ℤ)) (parts' : List (List ℕ)) : Type 0 where
  pub boxes_long : length boxes' ≡ length boxes
  pub parts_long : length parts' ≡ length parts
  pub first_old : (q : ℕ) → q < u → first_at parts' q ≡ first_at parts q
  pub count_old : (q : ℕ) → q < u → count_at parts' q ≡ count_at parts q
  pub child_old : (q : ℕ) → q < u → (q ≡ p → ⊥) → child_at parts' q ≡ child_at parts q
  pub child_here : child_at parts' p ≡ u
  pub left_first : first_at parts' u ≡ first_at parts p
  pub left_count : count_at parts' u ≡ count_at parts p / 2
  pub left_child : child_at parts' u ≡ 0
  pub right_first : first_at parts' (u + 1) ≡ first_at parts p + count_at parts p / 2
  pub right_count : count_at parts' (u + 1) ≡ count_at parts p - count_at parts p / 2
  pub right_child : child_at parts' (u + 1) ≡ 0
  pub row_old : (q : ℕ) → q < u → get_or boxes' q [] ≡ get_or boxes q []
  pub left_row : get_or boxes' u [] ≡ row_of left
  pub right_row : get_or boxes' (u + 1) [] ≡ row_of right
  pub boxes_rest : (q : ℕ) → u + 2 ≤ q → get_or boxes' q [] ≡ get_or boxes q []
  pub parts_rest : (q : ℕ) → u + 2 ≤ q → get_or parts' q [] ≡ get_or parts q []

module _ (boxes : List (List ℤ)) (parts : List (List ℕ)) (p u : ℕ) (left right : Rect) (below : p < u) (boxes_room : u + 1 < length boxes) (parts_room : u + 1 < length parts) where
  f : ℕ
  f = first_at parts p

  m : ℕ
  m = count_at parts p

  boxes₂ : List (List ℤ)
  boxes₂ = set (set boxes u (row_of left)) (u + 1) (row_of right)

  parts₁ : List (List ℕ)
  parts₁ = set parts p (part_row f (m / 2 + (m - m / 2)) u)

  parts₂ : List (List ℕ)
  parts₂ = set parts₁ u (part_row f (m / 2) 0)

  parts₃ : List (List ℕ)
  parts₃ = set parts₂ (u + 1) (part_row (f + m / 2) (m - m / 2) 0)

  -- a place below u, other than p, and p itself
  old : (q : ℕ) → q < u → (q ≡ p → ⊥) → get_or parts₃ q [] ≡ get_or parts q []
  unfolding f m parts₁ parts₂ parts₃
  old q l d = get_or-set_other parts₂ (u + 1) q (part_row (f + m / 2) (m - m / 2) 0) [] (omega arith) ∙ get_or-set_other parts₁ u q (part_row f (m / 2) 0) [] (omega arith) ∙ get_or-set_other parts p q (part_row f (m / 2 + (m - m / 2)) u) [] d

  here : get_or parts₃ p [] ≡ part_row (first_at parts p) (count_at parts p) u
  unfolding f m parts₁ parts₂ parts₃
  here =
      get_or-set_other parts₂ (u + 1) p (part_row (f + m / 2) (m - m / 2) 0) [] (omega arith) ∙ get_or-set_other parts₁ u p (part_row f (m / 2) 0) [] (omega arith)
      ∙ get_or-set_same parts p (part_row f (m / 2 + (m - m / 2)) u) [] (omega arith) ∙ ap (λ k. part_row (first_at parts p) k u) (let e : count_at parts p / 2 + (count_at parts p - count_at parts p / 2) ≡ count_at parts p = omega arith in e)

  at_left : get_or parts₃ u [] ≡ part_row (first_at parts p) (count_at parts p / 2) 0
  unfolding f m parts₁ parts₂ parts₃
  at_left = get_or-set_other parts₂ (u + 1) u (part_row (f + m / 2) (m - m / 2) 0) [] (omega arith) ∙ get_or-set_same parts₁ u (part_row f (m / 2) 0) [] (simp length-set (omega arith))

  at_right : get_or parts₃ (u + 1) [] ≡ part_row (first_at parts p + count_at parts p / 2) (count_at parts p - count_at parts p / 2) 0
  unfolding f m parts₁ parts₂ parts₃
  at_right = get_or-set_same parts₂ (u + 1) (part_row (f + m / 2) (m - m / 2) 0) [] (simp length-set parts_room)

  grows₃ : Grows boxes parts p u left right boxes₂ parts₃
  unfolding f m boxes₂ parts₁ parts₂ parts₃
  grows₃ = record {
    boxes_long = simp length-set;
    parts_long = simp length-set;
    first_old = λ q l. split (λ row. get_or row 0 0) q l refl (ℕ_discrete q p);
    count_old = λ q l. split (λ row. get_or row 1 0) q l refl (ℕ_discrete q p);
    child_old = λ q l d. ap (λ row. get_or row 2 0) (old q l d);
    child_here = ap (λ row. get_or row 2 0) here;
    left_first = ap (λ row. get_or row 0 0) at_left;
    left_count = ap (λ row. get_or row 1 0) at_left;
    left_child = ap (λ row. get_or row 2 0) at_left;
    right_first = ap (λ row. get_or row 0 0) at_right;
    right_count = ap (λ row. get_or row 1 0) at_right;
    right_child = ap (λ row. get_or row 2 0) at_right;
    row_old = λ q l. get_or-set_other (set boxes u (row_of left)) (u + 1) q (row_of right) [] (omega arith) ∙ get_or-set_other boxes u q (row_of left) [] (omega arith);
    left_row = get_or-set_other (set boxes u (row_of left)) (u + 1) u (row_of right) [] (omega arith) ∙ get_or-set_same boxes u (row_of left) [] (omega arith);
    right_row = get_or-set_same (set boxes u (row_of left)) (u + 1) (row_of right) [] (simp length-set boxes_room);
    boxes_rest = λ q l. get_or-set_other (set boxes u (row_of left)) (u + 1) q (row_of right) [] (omega arith) ∙ get_or-set_other boxes u q (row_of left) [] (omega arith);
    parts_rest = λ q l. get_or-set_other parts₂ (u + 1) q (part_row (f + m / 2) (m - m / 2) 0) [] (omega arith) ∙ get_or-set_other parts₁ u q (part_row f (m / 2) 0) [] (omega arith) ∙ get_or-set_other parts p q (part_row f (m / 2 + (m - m / 2)) u) [] (omega arith);
  }
    where
      -- the first two numbers of a row below u stay, p's too
      split : (read : List ℕ → ℕ) (q : ℕ) → q < u → read (get_or parts p []) ≡ read (part_row (first_at parts p) (count_at parts p) u) → Dec (q ≡ p) → read (get_or parts₃ q []) ≡ read (get_or parts q [])
      split read q l same (yes e) = ap (λ k. read (get_or parts₃ k [])) e ∙ ap read here ∙ sym same ∙ ap (λ k. read (get_or parts k [])) (sym e)
      split read q l same (no d) = ap read (old q l d)

  pub grows : (boxes' : List (List ℤ)) (parts' : List (List ℕ)) → Children boxes parts p u (u + 1) (first_at parts p) (count_at parts p / 2) (count_at parts p - count_at parts p / 2) left right boxes' parts'
      → Grows boxes parts p u left right boxes' parts'
  unfolding f m boxes₂ parts₁ parts₂ parts₃
  grows boxes' parts' C = rw (C.boxes_are, C.parts_are) grows₃
