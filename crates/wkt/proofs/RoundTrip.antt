-- "A written plan, read again, is the plan it came from": a theorem over what `write_wkt` and `read_wkt` promise. Assumes nothing.
use Rattle.std.specs.Prelude.{Err, Ok, Result}
use mathlib.Core.Path.{◌≡◌, sym, ap, ◌∙◌}
use mathlib.Core.Bool.{cond}
use mathlib.Core.List.{List}
use Prim.Native.Nat.{ℕ, ◌≤◌}
use native.Mathlib.Omega.{arith}
use lib.IntN.{ℤ}
use lib.ListN.{length, take}
use borrow.Author.Tests.{le-ltb}
use Rattle.rules.specs.declared.Kind.{Kind}
use Rattle.rules.specs.declared.Refusal.TheVariants.{TextTooLong, Unclosed}
use Rattle.rules.specs.Plans.{Plan}
use Rattle.lines.specs.Plans.{size_of}
use Rattle.lines.specs.Stored.{starting_with}
use Rattle.text.specs.Readings.{with_room, written}
use Rattle.text.proofs.Answers.{room_enough}
use Rattle.grammar.specs.Scans.{spelling}
use Rattle.grammar.specs.Plans.{plan_spelt}
use Rattle.wkt.specs.Readings.{plan_in, reading_of, reading, WktRead}
use Rattle.wkt.specs.Writings.{WktWritten}
use Rattle.wkt.proofs.Writings.{plan_given}
use Rattle.wkt.proofs.WrittenBack.{Back, written_back}
use Rattle.lines.specs.declared.Size.{Size}
use Rattle.rules.specs.declared.Refusal.{Refusal}

-- what was written is read again, into whatever tables: the plan, or 11 where one of them is too short for it
pub record Again (plan : Plan) (corners corners' : List ℤ) (rings rings' polygons polygons' : List ℕ) (r : Result Size Refusal) : Type 0 where
  pub answer : r ≡ with_room (size_of plan) (length corners) (length rings) (length polygons)
  pub coordinates : corners' ≡ written r plan.coordinates corners
  pub lengths : rings' ≡ written r plan.lengths rings
  pub counts : polygons' ≡ written r plan.counts polygons

module _ (kind : Kind) (coordinates : List ℤ) (lengths counts output output' : List ℕ) (bytes : ℕ) (w : WktWritten (plan_given kind coordinates lengths counts) output output' (Ok bytes)) where
  abbrev plan : Plan
  plan = plan_given kind coordinates lengths counts

  back : Back (plan_given kind coordinates lengths counts) bytes output'
  back = written_back kind coordinates lengths counts output output' bytes w

  due : (c l n : ℕ) → reading (take bytes output') c l n ≡ with_room (size_of plan) c l n
  unfolding reading
  due c l n =
      ap (λ b. cond b (Err TextTooLong) (reading_of (spelling (take bytes output')) c l n)) (le-ltb 65536 (length (take bytes output')) back.short)
      ∙ ap (λ s. reading_of s c l n) back.spelt
      ∙ ap (λ b. cond b (with_room (size_of (plan_spelt back.polygons)) c l n) (Err Unclosed)) back.are_closed
      ∙ ap (λ p. with_room (size_of p) c l n) back.same

  is : plan_in (spelling (take bytes output')) ≡ plan
  is = ap plan_in back.spelt ∙ back.same

  module _ (corners corners' : List ℤ) (rings rings' polygons polygons' : List ℕ) (r : Result Size Refusal) (g : WktRead (take bytes output') corners corners' rings rings' polygons polygons' r) where
    pub read_back : Again (plan_given kind coordinates lengths counts) corners corners' rings rings' polygons polygons' r
    read_back =
        record {
          answer = g.answer ∙ due (length corners) (length rings) (length polygons);
          coordinates = g.corners_written ∙ ap (λ p. written r p.coordinates corners) is;
          lengths = g.lengths_written ∙ ap (λ p. written r p.lengths rings) is;
          counts = g.counts_written ∙ ap (λ p. written r p.counts polygons) is;
        }

    -- into tables that have room for the plan
    pub round_trip : length coordinates ≤ length corners → length lengths ≤ length rings → length counts ≤ length polygons
        → (r ≡ Ok (size_of (plan_given kind coordinates lengths counts))) × (corners' ≡ starting_with coordinates corners) × (rings' ≡ starting_with lengths rings) × (polygons' ≡ starting_with counts polygons)
    round_trip x y z =
        let a = read_back in
        let all : r ≡ Ok (size_of plan) = a.answer ∙ sym (room_enough (size_of plan) (length corners) (length rings) (length polygons) (omega arith) y z) in
        (all, a.coordinates ∙ ap (λ s. written s coordinates corners) all, a.lengths ∙ ap (λ s. written s lengths rings) all, a.counts ∙ ap (λ s. written s counts polygons) all)
