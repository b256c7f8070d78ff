-- The meaning of a text, a line at a time. Assumes nothing.
use mathlib.Core.Path.{◌≡◌, refl, sym, ap, ◌∙◌}
use mathlib.Core.List.{List, [], ◌∷◌}
use Prim.Native.Nat.{ℕ, suc, ◌+◌}
use native.Mathlib.Numerals.{add-one}
use native.Mathlib.Omega.{arith}
use Rattle.fields.specs.Pieces.{split, Parted}
use Rattle.lines.specs.Plans.{Meaning, start_meaning, gives_meaning, broken_meaning, after_line, at_end, after_lines, meaning}
use Rattle.lines.specs.Records.{record_of}
use Rattle.fields.proofs.Pieces.{some_piece}

one_line : (k : ℕ) (so_far : Meaning) (line : List ℕ) (separator : ℕ) (s : List ℕ) → after_lines k so_far (line ∷ split separator s) ≡ after_lines (suc k) (after_line k so_far (record_of (split 9 line))) (split separator s)
unfolding after_lines
one_line k so_far line separator s =
    let p = some_piece separator s in
    ap (λ pieces. after_lines k so_far (line ∷ pieces)) p.are ∙ sym (ap (after_lines (suc k) (after_line k so_far (record_of (split 9 line)))) p.are)

-- the first line, and the lines after it
pub next_line : (k : ℕ) (so_far : Meaning) (text row after : List ℕ) → Parted 10 text row after → after_lines k so_far (split 10 text) ≡ after_lines (k + 1) (after_line k so_far (record_of (split 9 row))) (split 10 after)
next_line k so_far text row after p =
    ap (after_lines k so_far) p.pieces
    ∙ one_line k so_far row 10 after
    ∙ ap (λ j. after_lines j (after_line k so_far (record_of (split 9 row))) (split 10 after)) (sym (add-one k))

pub last_line : (k : ℕ) (so_far : Meaning) (text : List ℕ) → split 10 text ≡ text ∷ [] → after_lines k so_far (split 10 text) ≡ at_end k so_far text
unfolding after_lines
last_line k so_far text e = ap (after_lines k so_far) e

-- a text stays broken
pub stays_broken : (k j : ℕ) (pieces : List (List ℕ)) → after_lines k (broken_meaning j) pieces ≡ broken_meaning j
unfolding after_lines
stays_broken k j [] = refl
stays_broken k j (last ∷ []) = refl
stays_broken k j (line ∷ next ∷ pieces) = stays_broken (suc k) j (next ∷ pieces)

-- ---- no text comes to `Start`: its last piece has a say

ends_somewhere : (k : ℕ) (so_far : Meaning) (last : List ℕ) → at_end k so_far last ≡ start_meaning → ⊥
ends_somewhere k start_meaning last e = let one : ◌≡◌ {A = ℕ} 0 1 = cc in omega arith
ends_somewhere k (gives_meaning plan) [] e = let one : ◌≡◌ {A = ℕ} 0 1 = cc in omega arith
ends_somewhere k (gives_meaning plan) (x ∷ xs) e = let one : ◌≡◌ {A = ℕ} 0 1 = cc in omega arith
ends_somewhere k (broken_meaning j) last e = let one : ◌≡◌ {A = ℕ} 0 1 = cc in omega arith

lines_end : (k : ℕ) (so_far : Meaning) (piece : List ℕ) (pieces : List (List ℕ)) → after_lines k so_far (piece ∷ pieces) ≡ start_meaning → ⊥
unfolding after_lines
lines_end k so_far piece [] e = ends_somewhere k so_far piece e
lines_end k so_far piece (next ∷ pieces) e = lines_end (suc k) (after_line k so_far (record_of (split 9 piece))) next pieces e

pub never_start : (text : List ℕ) → meaning text ≡ start_meaning → ⊥
unfolding meaning
never_start text e = let p = some_piece 10 text in lines_end 1 start_meaning p.first p.others (ap (after_lines 1 start_meaning) (sym p.are) ∙ e)
