-- The contracts of `text::read_plan`, `reading_numbers` and `line_span`, whatever the code is, rule out wrong readers. Assumes nothing.
use Rattle.std.specs.Prelude.{Err, Ok, Result}
use mathlib.Core.Path.{◌≡◌, sym, ap, ◌∙◌}
use mathlib.Core.List.{List, [], ◌∷◌, ◌++◌}
use Prim.Native.Nat.{ℕ, ◌<◌}
use native.Mathlib.Omega.{arith}
use lib.IntN.{ℤ, pos}
use lib.ListN.{length, take, drop, length-drop}
use lib.Seq.{length-take-le}
use Rattle.fields.specs.Decimals.{digits_within, digits, decimal, worth, value_of, number_of}
use Rattle.fields.specs.Pieces.{split}
use Rattle.rules.specs.declared.Kind.TheVariants.{Polygons, Tree}
use Rattle.rules.specs.declared.Refusal.{Refusal}
use Rattle.rules.specs.declared.Refusal.TheVariants.{TextTooLong, BadLine, TableTooShort}
use Rattle.rules.specs.declared.Table.TheVariants as Table
use Rattle.text.specs.declared.Span.{Span}
use Rattle.lines.specs.Plans.{last_one_more, grown, after_lines, meaning}
use Rattle.text.specs.Lines.{LineSpan}
use Rattle.text.specs.Numbers.{reading_numbers}
use Rattle.text.specs.Readings.{reading_number, reading_detail, reading, written, PlanRead}
use Rattle.lines.specs.Records.{one_field, two_fields, point_of, three_fields, record_of}
use Rattle.lines.specs.Words.{plan, tree, outer, hole, node, at}
use Rattle.text.proofs.Answers.{too_long}
use Rattle.text.proofs.Worked.{text, ◌⇥◌}
use Rattle.lines.specs.declared.Size.{Size}

-- a refusal writes no table, so none is written before 11 is known
pub refusal_writes_nothing : (s : List ℕ) (corners corners' : List ℤ) (lengths lengths' counts counts' : List ℕ) (refusal : Refusal) → PlanRead s corners corners' lengths lengths' counts counts' (Err refusal) → (corners' ≡ corners) × (lengths' ≡ lengths) × (counts' ≡ counts)
refusal_writes_nothing s corners corners' lengths lengths' counts counts' refusal g = (g.corners_written, g.lengths_written, g.counts_written)

-- 2 at line 1 for every text, 11 for every text and `plan` read as a tree: a bare header is an empty list, which needs no room
pub refusal_throughout : (r : Result Size Refusal) → PlanRead (text (plan ∷ [])) [] [] [] [] [] [] r → r ≡ Ok (record { kind = Polygons; corners = 0; rings = 0; polygons = 0 })
unfolding reading meaning after_lines grown record_of one_field split
refusal_throughout r g = g.answer

-- by the numbers: 0, 2 with its line, 11 with its table
pub number_read : (r : Result Size Refusal) → PlanRead (text (plan ∷ [])) [] [] [] [] [] [] r → reading_number r ≡ 0
number_read r g = ap reading_number (refusal_throughout r g)

-- lines counted from 0, and 2 at line 1 for every text that is refused
pub line_named_lem : (r : Result Size Refusal) → PlanRead (text (plan ∷ hole ∷ [])) [] [] [] [] [] [] r → r ≡ Err (BadLine 2)
unfolding reading meaning after_lines grown record_of one_field split
line_named_lem r g = g.answer

pub line_numbered : (r : Result Size Refusal) → PlanRead (text (plan ∷ hole ∷ [])) [] [] [] [] [] [] r → (reading_number r ≡ 2) × (reading_detail r ≡ 2)
line_numbered r g = (ap reading_number (line_named_lem r g), ap reading_detail (line_named_lem r g))

-- `plan`, `outer`, `at 0 0`
abbrev corner : List ℕ
corner = text (plan ∷ outer ∷ at ⇥ (48 ∷ []) ⇥ (48 ∷ []) ∷ [])

-- the last line dropped: its corner is in the table, and what stands after it is as it was
pub last_line_read : (corners' : List ℤ) (lengths' counts' : List ℕ) (r : Result Size Refusal) → PlanRead corner (pos 7 ∷ pos 7 ∷ pos 7 ∷ []) corners' (7 ∷ 7 ∷ []) lengths' (7 ∷ 7 ∷ []) counts' r → (corners' ≡ pos 0 ∷ pos 0 ∷ pos 7 ∷ []) × (lengths' ≡ 1 ∷ 7 ∷ []) × (counts' ≡ 1 ∷ 7 ∷ [])
unfolding reading meaning after_lines grown last_one_more record_of one_field three_fields point_of split number_of value_of worth decimal digits digits_within
last_line_read corners' lengths' counts' r g =
    let e = g.answer in (
      g.corners_written ∙ ap (λ a. written a (pos 0 ∷ pos 0 ∷ []) (pos 7 ∷ pos 7 ∷ pos 7 ∷ [])) e,
      g.lengths_written ∙ ap (λ a. written a (1 ∷ []) (7 ∷ 7 ∷ [])) e,
      g.counts_written ∙ ap (λ a. written a (1 ∷ []) (7 ∷ 7 ∷ [])) e,
    )

-- the first short table is named, corners before rings before polygons
pub corners_named_first : (corners' : List ℤ) (lengths' counts' : List ℕ) (r : Result Size Refusal) → PlanRead corner (pos 7 ∷ []) corners' [] lengths' [] counts' r → r ≡ Err (TableTooShort Table.Corners)
unfolding reading meaning after_lines grown last_one_more record_of one_field three_fields point_of split number_of value_of worth decimal digits digits_within
corners_named_first corners' lengths' counts' r g = g.answer

pub rings_named_next : (corners' : List ℤ) (lengths' counts' : List ℕ) (r : Result Size Refusal) → PlanRead corner (pos 7 ∷ pos 7 ∷ []) corners' [] lengths' [] counts' r → r ≡ Err (TableTooShort Table.Rings)
unfolding reading meaning after_lines grown last_one_more record_of one_field three_fields point_of split number_of value_of worth decimal digits digits_within
rings_named_next corners' lengths' counts' r g = g.answer

pub polygons_named_last : (corners' : List ℤ) (lengths' counts' : List ℕ) (r : Result Size Refusal) → PlanRead corner (pos 7 ∷ pos 7 ∷ []) corners' (7 ∷ []) lengths' [] counts' r → r ≡ Err (TableTooShort Table.Polygons)
unfolding reading meaning after_lines grown last_one_more record_of one_field three_fields point_of split number_of value_of worth decimal digits digits_within
polygons_named_last corners' lengths' counts' r g = g.answer

pub table_numbered : (corners' : List ℤ) (lengths' counts' : List ℕ) (r : Result Size Refusal) → PlanRead corner (pos 7 ∷ pos 7 ∷ []) corners' (7 ∷ []) lengths' [] counts' r → (reading_number r ≡ 11) × (reading_detail r ≡ 3)
table_numbered corners' lengths' counts' r g = let e = polygons_named_last corners' lengths' counts' r g in (ap reading_number e, ap reading_detail e)

-- a tree needs no polygon table
pub tree_without_polygons : (lengths' : List ℕ) (r : Result Size Refusal) → PlanRead (text (plan ⇥ tree ∷ node ∷ [])) [] [] (7 ∷ []) lengths' [] [] r → r ≡ Ok (record { kind = Tree; corners = 0; rings = 1; polygons = 0 })
unfolding reading meaning after_lines grown record_of one_field two_fields split
tree_without_polygons lengths' r g = g.answer

-- by the numbers: a tree, of one ring; and a refusal has no kind and no counts
pub tree_numbered : (lengths' : List ℕ) (r : Result Size Refusal) → PlanRead (text (plan ⇥ tree ∷ node ∷ [])) [] [] (7 ∷ []) lengths' [] [] r → reading_numbers r ≡ record { refusal = 0; detail = 0; kind = 1; corners = 0; rings = 1; polygons = 0 }
tree_numbered lengths' r g = ap reading_numbers (tree_without_polygons lengths' r g)

pub refusal_numbered : (r : Result Size Refusal) → PlanRead (text (plan ∷ hole ∷ [])) [] [] [] [] [] [] r → reading_numbers r ≡ record { refusal = 2; detail = 2; kind = 0; corners = 0; rings = 0; polygons = 0 }
refusal_numbered r g = ap reading_numbers (line_named_lem r g)

-- 1 comes before 2 and 11, whatever the text says
pub length_first : (s : List ℕ) (corners corners' : List ℤ) (lengths lengths' counts counts' : List ℕ) (r : Result Size Refusal) → 65536 < length s → PlanRead s corners corners' lengths lengths' counts counts' r → r ≡ Err TextTooLong
length_first s corners corners' lengths lengths' counts counts' r h g = g.answer ∙ sym (too_long s (length corners) (length lengths) (length counts) h)

-- 2 comes before 11: a bad line is named however short the tables are
pub line_before_table : (r : Result Size Refusal) → PlanRead (text (plan ∷ outer ∷ (outer ++ outer) ∷ [])) [] [] [] [] [] [] r → r ≡ Err (BadLine 3)
unfolding reading meaning after_lines grown record_of one_field split
line_before_table r g = g.answer

-- a line stands at one place only, however often its bytes come up
pub one_span : (s : List ℕ) (k : ℕ) (a b : Span) → LineSpan s k a → LineSpan s k b → a ≡ b
one_span s k a b g h =
    let same : a.offset ≡ b.offset = g.starts ∙ sym h.starts in
    let long : a.length ≡ b.length = sym (whole a g) ∙ ap length (g.bytes ∙ sym h.bytes) ∙ whole b h in
    λ i. record { offset = same i; length = long i }
  where
    whole : (span : Span) → LineSpan s k span → length (take span.length (drop span.offset s)) ≡ span.length
    whole span f = let w = f.within in let l = length-drop span.offset s in length-take-le span.length (drop span.offset s) (omega arith)
