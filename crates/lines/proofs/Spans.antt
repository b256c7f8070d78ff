-- How many bytes a line takes at least, by what it says. Assumes nothing.
use mathlib.Core.Path.{◌≡◌, refl, sym, ap, ◌∙◌}
use mathlib.Core.Bool.{Bool, true, false, cond}
use mathlib.Core.List.{List, [], ◌∷◌}
use Prim.Native.Nat.{ℕ, suc, ◌+◌, ◌≤◌}
use native.Mathlib.Omega.{arith}
use lib.Dec.{eqb}
use lib.IntN.{ℤ}
use lib.ListN.{length}
use Rattle.std.specs.Prelude.{Option, Some, None, option_map}
use Rattle.fields.specs.Bytes.{same_bytes}
use Rattle.fields.specs.Decimals.{number_of}
use Rattle.fields.specs.Pieces.{before, split}
use Rattle.fields.proofs.Bytes.{same_equal}
use Rattle.fields.proofs.Numbers.{no_number}
use Rattle.lines.specs.declared.records.Record.{Record}
use Rattle.lines.specs.declared.records.Record.TheVariants.{Header, Outer, Hole, Node, Corner}
use Rattle.lines.specs.Words.{plan, list, tree, outer, hole, node, at}
use Rattle.lines.specs.Records.{one_field, two_fields, point_from, point_of, three_fields, record_of}
use Rattle.fields.proofs.Pieces.{Pieces, some_piece}

-- ---- pieces with a separator between each two

unfoldable pub span : List (List ℕ) → ℕ
span [] = 0
span (last ∷ []) = length last
span (piece ∷ next ∷ pieces) = length piece + 1 + span (next ∷ pieces)

span_before : (x : ℕ) (piece : List ℕ) (pieces : List (List ℕ)) → span ((x ∷ piece) ∷ pieces) ≡ suc (span (piece ∷ pieces))
unfolding span
span_before x piece [] = refl
span_before x piece (next ∷ pieces) = omega arith

pub span_split : (separator : ℕ) (s : List ℕ) → span (split separator s) ≡ length s
unfolding span split
span_split separator [] = refl
span_split separator (x ∷ xs) = go (eqb x separator) (some_piece separator xs) (span_split separator xs)
  where
    empty_first : (piece : List ℕ) (pieces : List (List ℕ)) → span ([] ∷ piece ∷ pieces) ≡ suc (span (piece ∷ pieces))
    empty_first piece pieces = omega arith

    go : (b : Bool) → Pieces (split separator xs) → span (split separator xs) ≡ length xs → span (cond b ([] ∷ split separator xs) (before x (split separator xs))) ≡ suc (length xs)
    go true p h = ap (λ pieces. span ([] ∷ pieces)) p.are ∙ empty_first p.first p.others ∙ ap suc (ap span (sym p.are) ∙ h)
    go false p h = ap (λ pieces. span (before x pieces)) p.are ∙ span_before x p.first p.others ∙ ap suc (ap span (sym p.are) ∙ h)

-- ---- the least bytes of a line

abbrev pub least : Option Record → ℕ
least (Some (Header kind)) = 4
least (Some Outer) = 5
least (Some Hole) = 4
least (Some Node) = 4
least (Some (Corner p)) = 6
least None = 0

-- a word that was compared with success is as long as what it was compared with
word_length : (word fixed : List ℕ) → same_bytes word fixed ≡ true → length word ≡ length fixed
word_length word fixed e = ap length (same_equal word fixed e)

-- a line that starts with this word and is long enough for what it then says, or says something else
by_word : (word fixed : List ℕ) (row other : Option Record) (n : ℕ) → (length word ≡ length fixed → least row ≤ n) → least other ≤ n → least (cond (same_bytes word fixed) row other) ≤ n
by_word word fixed row other n long rest = go (same_bytes word fixed) refl
  where
    go : (b : Bool) → same_bytes word fixed ≡ b → least (cond b row other) ≤ n
    go true e = long (word_length word fixed e)
    go false e = rest

one_word : (word : List ℕ) → least (one_field word) ≤ length word
unfolding one_field
one_word word =
    by_word word plan _ _ (length word) (λ l. omega arith)
    (by_word word outer _ _ (length word) (λ l. omega arith)
    (by_word word hole _ _ (length word) (λ l. omega arith) (by_word word node _ _ (length word) (λ l. omega arith) (omega arith))))

two_words : (word kind : List ℕ) → least (two_fields word kind) ≤ length word
unfolding two_fields
two_words word kind =
    by_word word plan _ _ (length word) (λ l. by_word kind list _ _ (length word) (λ m. omega arith) (by_word kind tree _ _ (length word) (λ m. omega arith) (omega arith))) (omega arith)

-- a number is some byte long
number_long : (field : List ℕ) (z : ℤ) → number_of field ≡ Some z → 1 ≤ length field
number_long [] z e = absurd (unread (no_number [] refl ∙ e))
  where
    unread : None ≡ Some z → ⊥
    unread p = let one : ◌≡◌ {A = ℕ} 0 1 = cc in omega arith
number_long (x ∷ field) z e = omega arith

corner_long : (x y : List ℕ) (m n : Option ℤ) → number_of x ≡ m → number_of y ≡ n → least (option_map Corner (point_from m n)) ≤ 4 + length x + length y
corner_long x y (Some a) (Some b) p q = let j = number_long x a p in let k = number_long y b q in omega arith
corner_long x y (Some a) None p q = omega arith
corner_long x y None (Some b) p q = omega arith
corner_long x y None None p q = omega arith

three_words : (word x y : List ℕ) → least (three_fields word x y) ≤ length word + 1 + (length x + 1 + length y)
unfolding three_fields point_of
three_words word x y = by_word word at _ _ (length word + 1 + (length x + 1 + length y)) (λ l. let c = corner_long x y (number_of x) (number_of y) refl refl in omega arith) (omega arith)

by_fields : (fields : List (List ℕ)) → least (record_of fields) ≤ span fields
unfolding record_of span
by_fields [] = omega arith
by_fields (word ∷ []) = one_word word
by_fields (word ∷ kind ∷ []) = let h = two_words word kind in omega arith
by_fields (word ∷ x ∷ y ∷ []) = three_words word x y
by_fields (word ∷ x ∷ y ∷ more ∷ fields) = omega arith

pub row_bytes : (line : List ℕ) → least (record_of (split 9 line)) ≤ length line
row_bytes line = let h = by_fields (split 9 line) in let e = span_split 9 line in omega arith
