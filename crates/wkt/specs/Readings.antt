-- What reading Well-Known Text answers, and what the lent tables then hold (document 02, R-1): "Text off the grammar gets 21 with the place ..
-- then a ring whose ends differ or of fewer than two positions gets 22, both after 1 and before 11".
use Rattle.std.specs.Prelude.{◌≡◌, cond, List, ℕ, eqb, ltb, ℤ, length, Result, Ok, Err}
use Rattle.rules.specs.declared.Kind.TheVariants.{Polygons}
use Rattle.rules.specs.declared.Refusal.TheVariants.{TextTooLong, OffGrammar, Unclosed}
use Rattle.rules.specs.Plans.{Plan}
use Rattle.lines.specs.Plans.{size_of, empty_plan}
use Rattle.text.specs.Readings.{reading_number, reading_detail, with_room, short_table, written}
use Rattle.grammar.specs.Grammar.{Polygon}
use Rattle.grammar.specs.Spellings.{Spelling, spells, breaks, Means}
use Rattle.grammar.specs.Scans.{spelling}
use Rattle.grammar.specs.Plans.{every_closed, plan_spelt}
use Rattle.scanner.specs.declared.Extent.{Extent}
use Rattle.grammar.specs.declared.OffGrammar as Off
use Rattle.scanner.specs.Extents.{no_extent, with_all}
use Rattle.lines.specs.declared.Size.{Size}
use Rattle.rules.specs.declared.Refusal.{Refusal}

-- the plan that a text spells
abbrev pub plan_in : Spelling → Plan
plan_in (spells polygons) = plan_spelt polygons
plan_in (breaks place) = empty_plan Polygons

-- 21 is about the whole text; then 22, then 11
abbrev pub reading_of : Spelling → ℕ → ℕ → ℕ → Result Size Refusal
reading_of (spells polygons) corners rings counts = cond (every_closed polygons) (with_room (size_of (plan_spelt polygons)) corners rings counts) (Err Unclosed)
reading_of (breaks place) corners rings counts = Err (OffGrammar place)

-- 1 first, for tables of these lengths
unfoldable pub reading : List ℕ → ℕ → ℕ → ℕ → Result Size Refusal
reading text corners rings counts = cond (ltb 65536 (length text)) (Err TextTooLong) (reading_of (spelling text) corners rings counts)

-- ---- the same in numbers

abbrev pub number_of : Spelling → ℕ → ℕ → ℕ → ℕ
number_of (spells polygons) corners rings counts = cond (every_closed polygons) (cond (eqb (short_table (size_of (plan_spelt polygons)) corners rings counts) 0) 0 11) 22
number_of (breaks place) corners rings counts = 21

abbrev pub detail_of : Spelling → ℕ → ℕ → ℕ → ℕ
detail_of (spells polygons) corners rings counts = cond (every_closed polygons) (short_table (size_of (plan_spelt polygons)) corners rings counts) 0
detail_of (breaks place) corners rings counts = place

unfoldable pub number_due : List ℕ → ℕ → ℕ → ℕ → ℕ
number_due text corners rings counts = cond (ltb 65536 (length text)) 1 (number_of (spelling text) corners rings counts)

unfoldable pub detail_due : List ℕ → ℕ → ℕ → ℕ → ℕ
detail_due text corners rings counts = cond (ltb 65536 (length text)) 0 (detail_of (spelling text) corners rings counts)

-- ---- the call

-- answer and tables of `read_wkt`. What is read is what the grammar says (`means`), and the grammar says one thing (`means_one`)
pub record WktRead (text : List ℕ) (corners corners' : List ℤ) (lengths lengths' counts counts' : List ℕ) (r : Result Size Refusal) : Type 0 where
  pub answer : r ≡ reading text (length corners) (length lengths) (length counts)
  pub number : reading_number r ≡ number_due text (length corners) (length lengths) (length counts)
  pub detail : reading_detail r ≡ detail_due text (length corners) (length lengths) (length counts)
  pub means : Means text (spelling text)
  pub corners_written : corners' ≡ written r (plan_in (spelling text)).coordinates corners
  pub lengths_written : lengths' ≡ written r (plan_in (spelling text)).lengths lengths
  pub counts_written : counts' ≡ written r (plan_in (spelling text)).counts counts

-- ---- on the way

-- a scan that stores nothing
abbrev pub Judged : List ℕ → Result Extent Off.OffGrammar → Type 0
Judged text (Ok extent) = (polygons : List Polygon) × (spelling text ≡ spells polygons) × (extent ≡ with_all no_extent polygons)
Judged text (Err off) = spelling text ≡ breaks off.place

abbrev pub judged_reading : Extent → ℕ → ℕ → ℕ → Result Size Refusal
judged_reading e corners rings counts = cond e.closed (with_room (record { kind = Polygons; corners = e.corners; rings = e.rings; polygons = e.polygons }) corners rings counts) (Err Unclosed)
