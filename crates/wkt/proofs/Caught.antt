-- The contracts of `read_wkt` and `write_wkt`, whatever the code is, rule out wrong readers and writers. Assumes nothing.
use Rattle.std.specs.Prelude.{Err, Ok, Result, ℕ}
use mathlib.Core.Path.{◌≡◌, ap, ◌∙◌, refl}
use mathlib.Core.Bool.{true, cond}
use mathlib.Core.List.{List, [], ◌∷◌}
use Prim.Native.Nat.{ℕ, ◌<◌}
use lib.Dec.{ltb}
use lib.IntN.{ℤ, pos}
use lib.ListN.{length}
use borrow.Author.Tests.{lt-ltb}
use Rattle.fields.specs.Decimals.{decimal, digits, digits_within}
use Rattle.rules.specs.declared.Kind.TheVariants.{Polygons, Tree}
use Rattle.rules.specs.declared.Refusal.{Refusal}
use Rattle.rules.specs.declared.Refusal.TheVariants.{TextTooLong, TableTooShort, Unsound, OffGrammar, Unclosed}
use Rattle.rules.specs.declared.Table.TheVariants as Table
use Rattle.rules.specs.Lists.{any_of, total, parts_of}
use Rattle.rules.specs.Plans.{Plan, corners_of, rings_of, polygons_of, too_many, uneven, plan_verdict}
use Rattle.text.specs.Readings.{written}
use Rattle.grammar.specs.Modes.{next_mode, event_of}
use Rattle.grammar.specs.Scans.{read, spelling}
use Rattle.grammar.specs.Plans.{is_closed, ends_at, all_closed, every_closed, numbers_of, ring_numbers, coordinates, ring_lengths, lengths, counts}
use Rattle.grammar.specs.Texts.{after, in_brackets, wkt_text, closed, drop_last, wkt_of}
use Rattle.wkt.specs.Numbers.{read_numbers}
use Rattle.wkt.specs.Readings.{reading, WktRead}
use Rattle.wkt.specs.Writings.{drawable, with_output, writing_of, writing, unnamed_writing, output_after, WktWritten}
use Rattle.rules.specs.Answering.{Accepted}
use Rattle.lines.specs.declared.Size.{Size}

-- ---- reading

-- a refusal writes no table, so none is written before 11 is known
pub refusal_writes_nothing : (text : List ℕ) (c c' : List ℤ) (l l' n n' : List ℕ) (refusal : Refusal) → WktRead text c c' l l' n n' (Err refusal) → (c' ≡ c) × (l' ≡ l) × (n' ≡ n)
refusal_writes_nothing text c c' l l' n n' refusal g = (g.corners_written, g.lengths_written, g.counts_written)

-- 21 at 0 always, and at the length always: `POLYGON((01` breaks at 10 of 11
pub place_told : (r : Result Size Refusal) → WktRead (80 ∷ 79 ∷ 76 ∷ 89 ∷ 71 ∷ 79 ∷ 78 ∷ 40 ∷ 40 ∷ 48 ∷ 49 ∷ []) [] [] [] [] [] [] r → r ≡ Err (OffGrammar 10)
unfolding reading spelling read next_mode event_of every_closed all_closed is_closed ends_at coordinates ring_numbers numbers_of lengths ring_lengths counts drop_last total
place_told r g = g.answer

-- a text that only ends early breaks at its length
pub early_told : (r : Result Size Refusal) → WktRead (80 ∷ 79 ∷ 76 ∷ 89 ∷ 71 ∷ 79 ∷ 78 ∷ []) [] [] [] [] [] [] r → r ≡ Err (OffGrammar 7)
unfolding reading spelling read next_mode event_of every_closed all_closed is_closed ends_at coordinates ring_numbers numbers_of lengths ring_lengths counts drop_last total
early_told r g = g.answer

-- `POLYGON((3 4,0 0,3 4))`
abbrev ring : List ℕ
ring = 80 ∷ 79 ∷ 76 ∷ 89 ∷ 71 ∷ 79 ∷ 78 ∷ 40 ∷ 40 ∷ 51 ∷ 32 ∷ 52 ∷ 44 ∷ 48 ∷ 32 ∷ 48 ∷ 44 ∷ 51 ∷ 32 ∷ 52 ∷ 41 ∷ 41 ∷ []

-- a refusal throughout, no polygons for every text, the last position kept, a position too many left out: two corners, in their order
pub ring_read : (c' : List ℤ) (l' n' : List ℕ) (r : Result Size Refusal) → WktRead ring (pos 7 ∷ pos 7 ∷ pos 7 ∷ pos 7 ∷ pos 7 ∷ []) c' (7 ∷ 7 ∷ []) l' (7 ∷ 7 ∷ []) n' r
    → (r ≡ Ok (record { kind = Polygons; corners = 2; rings = 1; polygons = 1 })) × (c' ≡ pos 3 ∷ pos 4 ∷ pos 0 ∷ pos 0 ∷ pos 7 ∷ []) × (l' ≡ 2 ∷ 7 ∷ []) × (n' ≡ 1 ∷ 7 ∷ [])
unfolding reading spelling read next_mode event_of every_closed all_closed is_closed ends_at coordinates ring_numbers numbers_of lengths ring_lengths counts drop_last total
ring_read c' l' n' r g =
    let e = g.answer in (
      e,
      g.corners_written ∙ ap (λ a. written a (pos 3 ∷ pos 4 ∷ pos 0 ∷ pos 0 ∷ []) (pos 7 ∷ pos 7 ∷ pos 7 ∷ pos 7 ∷ pos 7 ∷ [])) e,
      g.lengths_written ∙ ap (λ a. written a (2 ∷ []) (7 ∷ 7 ∷ [])) e,
      g.counts_written ∙ ap (λ a. written a (1 ∷ []) (7 ∷ 7 ∷ [])) e,
    )

-- 22, and before 11: `POLYGON((3 4,0 0))`, with no table at all
pub ends_differ : (r : Result Size Refusal) → WktRead (80 ∷ 79 ∷ 76 ∷ 89 ∷ 71 ∷ 79 ∷ 78 ∷ 40 ∷ 40 ∷ 51 ∷ 32 ∷ 52 ∷ 44 ∷ 48 ∷ 32 ∷ 48 ∷ 41 ∷ 41 ∷ []) [] [] [] [] [] [] r → r ≡ Err Unclosed
unfolding reading spelling read next_mode event_of every_closed all_closed is_closed ends_at coordinates ring_numbers numbers_of lengths ring_lengths counts drop_last total
ends_differ r g = g.answer

-- ends compared in x alone: `POLYGON((3 4,3 0))`
pub differ_in_y : (r : Result Size Refusal) → WktRead (80 ∷ 79 ∷ 76 ∷ 89 ∷ 71 ∷ 79 ∷ 78 ∷ 40 ∷ 40 ∷ 51 ∷ 32 ∷ 52 ∷ 44 ∷ 51 ∷ 32 ∷ 48 ∷ 41 ∷ 41 ∷ []) [] [] [] [] [] [] r → r ≡ Err Unclosed
unfolding reading spelling read next_mode event_of every_closed all_closed is_closed ends_at coordinates ring_numbers numbers_of lengths ring_lengths counts drop_last total
differ_in_y r g = g.answer

-- one position: `POLYGON((3 4))`
pub lone_position : (r : Result Size Refusal) → WktRead (80 ∷ 79 ∷ 76 ∷ 89 ∷ 71 ∷ 79 ∷ 78 ∷ 40 ∷ 40 ∷ 51 ∷ 32 ∷ 52 ∷ 41 ∷ 41 ∷ []) [] [] [] [] [] [] r → r ≡ Err Unclosed
unfolding reading spelling read next_mode event_of every_closed all_closed is_closed ends_at coordinates ring_numbers numbers_of lengths ring_lengths counts drop_last total
lone_position r g = g.answer

-- 22 before 21: `POLYGON((3 4,0 0),(` only ends early, though its first ring is not closed
pub whole_text_first : (r : Result Size Refusal) → WktRead (80 ∷ 79 ∷ 76 ∷ 89 ∷ 71 ∷ 79 ∷ 78 ∷ 40 ∷ 40 ∷ 51 ∷ 32 ∷ 52 ∷ 44 ∷ 48 ∷ 32 ∷ 48 ∷ 41 ∷ 44 ∷ 40 ∷ []) [] [] [] [] [] [] r → r ≡ Err (OffGrammar 19)
unfolding reading spelling read next_mode event_of every_closed all_closed is_closed ends_at coordinates ring_numbers numbers_of lengths ring_lengths counts drop_last total
whole_text_first r g = g.answer

-- an EMPTY member that adds a polygon: `MULTIPOLYGON(EMPTY)` needs no room
pub empty_adds_none : (r : Result Size Refusal) → WktRead (77 ∷ 85 ∷ 76 ∷ 84 ∷ 73 ∷ 80 ∷ 79 ∷ 76 ∷ 89 ∷ 71 ∷ 79 ∷ 78 ∷ 40 ∷ 69 ∷ 77 ∷ 80 ∷ 84 ∷ 89 ∷ 41 ∷ []) [] [] [] [] [] [] r → r ≡ Ok (record { kind = Polygons; corners = 0; rings = 0; polygons = 0 })
unfolding reading spelling read next_mode event_of every_closed all_closed is_closed ends_at coordinates ring_numbers numbers_of lengths ring_lengths counts drop_last total
empty_adds_none r g = g.answer

-- the first short table is named, corners before rings before polygons
pub corners_named_first : (c' : List ℤ) (r : Result Size Refusal) → WktRead ring (pos 7 ∷ pos 7 ∷ pos 7 ∷ []) c' [] [] [] [] r → r ≡ Err (TableTooShort Table.Corners)
unfolding reading spelling read next_mode event_of every_closed all_closed is_closed ends_at coordinates ring_numbers numbers_of lengths ring_lengths counts drop_last total
corners_named_first c' r g = g.answer

pub polygons_named_last : (c' : List ℤ) (l' : List ℕ) (r : Result Size Refusal) → WktRead ring (pos 7 ∷ pos 7 ∷ pos 7 ∷ pos 7 ∷ []) c' (7 ∷ []) l' [] [] r → r ≡ Err (TableTooShort Table.Polygons)
unfolding reading spelling read next_mode event_of every_closed all_closed is_closed ends_at coordinates ring_numbers numbers_of lengths ring_lengths counts drop_last total
polygons_named_last c' l' r g = g.answer

-- counts in another order, as numbers
pub counts_numbered : read_numbers (Ok (record { kind = Polygons; corners = 3; rings = 2; polygons = 1 })) ≡ record { refusal = 0; detail = 0; corners = 3; rings = 2; polygons = 1 }
counts_numbered = refl

-- ---- writing

-- a number that names no kind judged as a list: one polygon of one ring that is not there gets 3 in a list, and a tree has no polygons
pub unnamed_as_a_tree : unnamed_writing (plan_verdict (record { kind = Tree; coordinates = []; lengths = []; counts = 1 ∷ [] })) ≡ Err Unsound
unfolding plan_verdict too_many uneven any_of total
unnamed_as_a_tree = refl

pub nothing_written : (plan : Plan) (output output' : List ℕ) (refusal : Refusal) → WktWritten plan output output' (Err refusal) → output' ≡ output
nothing_written plan output output' refusal g = g.output_written

-- one ring of one corner
abbrev corner : Plan
corner = record { kind = Polygons; coordinates = pos 3 ∷ pos 4 ∷ []; lengths = 1 ∷ []; counts = 1 ∷ [] }

-- a refusal throughout, `MULTIPOLYGON EMPTY` for every plan, a ring not closed: `MULTIPOLYGON (((3 4, 3 4)))`, and a byte behind it as it was
pub corner_written : (output' : List ℕ) (r : Result ℕ Refusal) → WktWritten corner (7 ∷ 7 ∷ 7 ∷ 7 ∷ 7 ∷ 7 ∷ 7 ∷ 7 ∷ 7 ∷ 7 ∷ 7 ∷ 7 ∷ 7 ∷ 7 ∷ 7 ∷ 7 ∷ 7 ∷ 7 ∷ 7 ∷ 7 ∷ 7 ∷ 7 ∷ 7 ∷ 7 ∷ 7 ∷ 7 ∷ 7 ∷ 7 ∷ []) output' r → (r ≡ Ok 27) × (output' ≡ 77 ∷ 85 ∷ 76 ∷ 84 ∷ 73 ∷ 80 ∷ 79 ∷ 76 ∷ 89 ∷ 71 ∷ 79 ∷ 78 ∷ 32 ∷ 40 ∷ 40 ∷ 40 ∷ 51 ∷ 32 ∷ 52 ∷ 44 ∷ 32 ∷ 51 ∷ 32 ∷ 52 ∷ 41 ∷ 41 ∷ 41 ∷ 7 ∷ [])
unfolding writing plan_verdict too_many uneven drawable any_of total wkt_of polygons_of rings_of parts_of corners_of wkt_text in_brackets after closed decimal digits digits_within
corner_written output' r g = let e = g.answer in (e, g.output_written ∙ ap (λ a. output_after a (77 ∷ 85 ∷ 76 ∷ 84 ∷ 73 ∷ 80 ∷ 79 ∷ 76 ∷ 89 ∷ 71 ∷ 79 ∷ 78 ∷ 32 ∷ 40 ∷ 40 ∷ 40 ∷ 51 ∷ 32 ∷ 52 ∷ 44 ∷ 32 ∷ 51 ∷ 32 ∷ 52 ∷ 41 ∷ 41 ∷ 41 ∷ []) (7 ∷ 7 ∷ 7 ∷ 7 ∷ 7 ∷ 7 ∷ 7 ∷ 7 ∷ 7 ∷ 7 ∷ 7 ∷ 7 ∷ 7 ∷ 7 ∷ 7 ∷ 7 ∷ 7 ∷ 7 ∷ 7 ∷ 7 ∷ 7 ∷ 7 ∷ 7 ∷ 7 ∷ 7 ∷ 7 ∷ 7 ∷ 7 ∷ [])) e)

-- a byte too few
pub one_short : (output' : List ℕ) (r : Result ℕ Refusal) → WktWritten corner (7 ∷ 7 ∷ 7 ∷ 7 ∷ 7 ∷ 7 ∷ 7 ∷ 7 ∷ 7 ∷ 7 ∷ 7 ∷ 7 ∷ 7 ∷ 7 ∷ 7 ∷ 7 ∷ 7 ∷ 7 ∷ 7 ∷ 7 ∷ 7 ∷ 7 ∷ 7 ∷ 7 ∷ 7 ∷ 7 ∷ []) output' r → r ≡ Err (TableTooShort Table.Output)
unfolding writing plan_verdict too_many uneven drawable any_of total wkt_of polygons_of rings_of parts_of corners_of wkt_text in_brackets after closed decimal digits digits_within
one_short output' r g = g.answer

-- no polygons: `MULTIPOLYGON EMPTY`
pub none_written : (output' : List ℕ) (r : Result ℕ Refusal) → WktWritten (record { kind = Polygons; coordinates = []; lengths = []; counts = [] }) (7 ∷ 7 ∷ 7 ∷ 7 ∷ 7 ∷ 7 ∷ 7 ∷ 7 ∷ 7 ∷ 7 ∷ 7 ∷ 7 ∷ 7 ∷ 7 ∷ 7 ∷ 7 ∷ 7 ∷ 7 ∷ []) output' r → output' ≡ 77 ∷ 85 ∷ 76 ∷ 84 ∷ 73 ∷ 80 ∷ 79 ∷ 76 ∷ 89 ∷ 71 ∷ 79 ∷ 78 ∷ 32 ∷ 69 ∷ 77 ∷ 80 ∷ 84 ∷ 89 ∷ []
unfolding writing plan_verdict too_many uneven drawable any_of total wkt_of polygons_of rings_of parts_of corners_of wkt_text in_brackets after closed decimal digits digits_within
none_written output' r g = let e = g.answer in g.output_written ∙ ap (λ a. output_after a (77 ∷ 85 ∷ 76 ∷ 84 ∷ 73 ∷ 80 ∷ 79 ∷ 76 ∷ 89 ∷ 71 ∷ 79 ∷ 78 ∷ 32 ∷ 69 ∷ 77 ∷ 80 ∷ 84 ∷ 89 ∷ []) (7 ∷ 7 ∷ 7 ∷ 7 ∷ 7 ∷ 7 ∷ 7 ∷ 7 ∷ 7 ∷ 7 ∷ 7 ∷ 7 ∷ 7 ∷ 7 ∷ 7 ∷ 7 ∷ 7 ∷ 7 ∷ [])) e

-- a tree, and an empty ring
pub tree_refused : (output' : List ℕ) (r : Result ℕ Refusal) → WktWritten (record { kind = Tree; coordinates = []; lengths = []; counts = [] }) [] output' r → r ≡ Err Unclosed
unfolding writing plan_verdict too_many uneven drawable any_of total wkt_of polygons_of rings_of parts_of corners_of wkt_text in_brackets after closed decimal digits digits_within
tree_refused output' r g = g.answer

pub empty_ring_refused : (output' : List ℕ) (r : Result ℕ Refusal) → WktWritten (record { kind = Polygons; coordinates = []; lengths = 0 ∷ []; counts = 1 ∷ [] }) [] output' r → r ≡ Err Unclosed
unfolding writing plan_verdict too_many uneven drawable any_of total wkt_of polygons_of rings_of parts_of corners_of wkt_text in_brackets after closed decimal digits digits_within
empty_ring_refused output' r g = g.answer

-- rings in another order: `MULTIPOLYGON (((1 1, 1 1), (2 2, 2 2)))`
pub in_order : (output' : List ℕ) (r : Result ℕ Refusal) → WktWritten (record { kind = Polygons; coordinates = pos 1 ∷ pos 1 ∷ pos 2 ∷ pos 2 ∷ []; lengths = 1 ∷ 1 ∷ []; counts = 2 ∷ [] }) (7 ∷ 7 ∷ 7 ∷ 7 ∷ 7 ∷ 7 ∷ 7 ∷ 7 ∷ 7 ∷ 7 ∷ 7 ∷ 7 ∷ 7 ∷ 7 ∷ 7 ∷ 7 ∷ 7 ∷ 7 ∷ 7 ∷ 7 ∷ 7 ∷ 7 ∷ 7 ∷ 7 ∷ 7 ∷ 7 ∷ 7 ∷ 7 ∷ 7 ∷ 7 ∷ 7 ∷ 7 ∷ 7 ∷ 7 ∷ 7 ∷ 7 ∷ 7 ∷ 7 ∷ 7 ∷ []) output' r → output' ≡ 77 ∷ 85 ∷ 76 ∷ 84 ∷ 73 ∷ 80 ∷ 79 ∷ 76 ∷ 89 ∷ 71 ∷ 79 ∷ 78 ∷ 32 ∷ 40 ∷ 40 ∷ 40 ∷ 49 ∷ 32 ∷ 49 ∷ 44 ∷ 32 ∷ 49 ∷ 32 ∷ 49 ∷ 41 ∷ 44 ∷ 32 ∷ 40 ∷ 50 ∷ 32 ∷ 50 ∷ 44 ∷ 32 ∷ 50 ∷ 32 ∷ 50 ∷ 41 ∷ 41 ∷ 41 ∷ []
unfolding writing plan_verdict too_many uneven drawable any_of total wkt_of polygons_of rings_of parts_of corners_of wkt_text in_brackets after closed decimal digits digits_within
in_order output' r g = let e = g.answer in g.output_written ∙ ap (λ a. output_after a (77 ∷ 85 ∷ 76 ∷ 84 ∷ 73 ∷ 80 ∷ 79 ∷ 76 ∷ 89 ∷ 71 ∷ 79 ∷ 78 ∷ 32 ∷ 40 ∷ 40 ∷ 40 ∷ 49 ∷ 32 ∷ 49 ∷ 44 ∷ 32 ∷ 49 ∷ 32 ∷ 49 ∷ 41 ∷ 44 ∷ 32 ∷ 40 ∷ 50 ∷ 32 ∷ 50 ∷ 44 ∷ 32 ∷ 50 ∷ 32 ∷ 50 ∷ 41 ∷ 41 ∷ 41 ∷ []) (7 ∷ 7 ∷ 7 ∷ 7 ∷ 7 ∷ 7 ∷ 7 ∷ 7 ∷ 7 ∷ 7 ∷ 7 ∷ 7 ∷ 7 ∷ 7 ∷ 7 ∷ 7 ∷ 7 ∷ 7 ∷ 7 ∷ 7 ∷ 7 ∷ 7 ∷ 7 ∷ 7 ∷ 7 ∷ 7 ∷ 7 ∷ 7 ∷ 7 ∷ 7 ∷ 7 ∷ 7 ∷ 7 ∷ 7 ∷ 7 ∷ 7 ∷ 7 ∷ 7 ∷ 7 ∷ [])) e

-- 11 before 1: a text that is too long gets 1, whatever the output is
pub long_first : (plan : Plan) (output output' : List ℕ) (r : Result ℕ Refusal) → plan_verdict plan ≡ Accepted → drawable plan ≡ true → 65536 < length (wkt_of plan) → WktWritten plan output output' r → r ≡ Err TextTooLong
unfolding writing
long_first plan output output' r v d h g =
    g.answer
    ∙ ap (λ v. writing_of v plan (length output)) v
    ∙ ap (λ b. cond b (with_output (length (wkt_of plan)) (length output)) (Err Unclosed)) d
    ∙ ap (λ b. cond b (Err TextTooLong) (cond (ltb (length output) (length (wkt_of plan))) (Err (TableTooShort Table.Output)) (Ok (length (wkt_of plan))))) (lt-ltb 65536 (length (wkt_of plan)) h)
