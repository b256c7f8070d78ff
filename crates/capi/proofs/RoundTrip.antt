-- "A written plan, read again, is the plan it came from", over the two exports. Assumes nothing.
use Rattle.std.specs.Prelude.{Err, None, Ok, Option, Result, Some, ℕ}
use mathlib.Core.Path.{◌≡◌, refl, sym, ap, subst, ◌∙◌}
use mathlib.Core.List.{List}
use Prim.Native.Nat.{ℕ}
use lib.IntN.{ℤ}
use lib.ListN.{take}
use Rattle.rules.specs.declared.Kind.{Kind}
use Rattle.rules.specs.declared.Kind.TheVariants.{Tree}
use Rattle.rules.specs.declared.Refusal.TheVariants.{Unsound}
use Rattle.rules.specs.Plans.{plan_verdict}
use Rattle.wkt.specs.declared.numbers.WriteNumbers.{WriteNumbers}
use Rattle.wkt.specs.Numbers.{write_numbers}
use Rattle.wkt.specs.Readings.{WktRead}
use Rattle.wkt.specs.Writings.{writing_number, unnamed_writing, WktWritten}
use Rattle.wkt.proofs.Writings.{plan_given}
use Rattle.wkt.proofs.RoundTrip.{Again, read_back}
use Rattle.capi.specs.WellKnown.{WriteSays}
use Rattle.capi.proofs.Sessions.{positive}
use Rattle.rules.specs.Answering.{Verdict, Accepted}
use Rattle.lines.specs.declared.Size.{Size}
use Rattle.rules.specs.declared.Refusal.{Refusal}

unnamed_refused : (v : Verdict) → writing_number (unnamed_writing v) ≡ 0 → ⊥
unnamed_refused Accepted e = positive Unsound e
unnamed_refused (Err refusal) e = positive refusal e

-- what `findspot_write_wkt` wrote where it answered 0: so many bytes of a plan of a named kind
pub record Wrote (named : Option Kind) (coordinates : List ℤ) (lengths counts output output' : List ℕ) (a : WriteNumbers) : Type 0 where
  pub kind : Kind
  pub is : named ≡ Some kind
  pub written : WktWritten (plan_given kind coordinates lengths counts) output output' (Ok a.length)

pub wrote : (named : Option Kind) (coordinates : List ℤ) (lengths counts output output' : List ℕ) (a : WriteNumbers) → WriteSays named coordinates lengths counts output output' a → a.refusal ≡ 0 → Wrote named coordinates lengths counts output output' a
wrote None coordinates lengths counts output output' a g z = absurd (unnamed_refused (plan_verdict (record { kind = Tree; coordinates = coordinates; lengths = lengths; counts = counts })) (ap (λ r. r.refusal) (sym g.1) ∙ z))
wrote (Some kind) coordinates lengths counts output output' a g z = go g.0 g.1 g.2
  where
    go : (w : Result ℕ Refusal) → WktWritten (plan_given kind coordinates lengths counts) output output' w → a ≡ write_numbers w → Wrote (Some kind) coordinates lengths counts output output' a
    go (Ok bytes) w e = record { kind = kind; is = refl; written = subst (λ n. WktWritten (plan_given kind coordinates lengths counts) output output' (Ok n)) (sym (ap (λ r. r.length) e)) w }
    go (Err refusal) w e = absurd (positive refusal (ap (λ r. r.refusal) (sym e) ∙ z))

-- and `findspot_read_wkt` of these bytes gives the plan again, or 11 where a table is too short for it
pub exports_again : (named : Option Kind) (coordinates : List ℤ) (lengths counts output output' : List ℕ) (a : WriteNumbers) (g : WriteSays named coordinates lengths counts output output' a) (z : a.refusal ≡ 0) (corners corners' : List ℤ) (rings rings' polygons polygons' : List ℕ) (r : Result Size Refusal)
    → WktRead (take a.length output') corners corners' rings rings' polygons polygons' r
    → Again (plan_given (wrote named coordinates lengths counts output output' a g z).kind coordinates lengths counts) corners corners' rings rings' polygons polygons' r
exports_again named coordinates lengths counts output output' a g z corners corners' rings rings' polygons polygons' r h =
    let w = wrote named coordinates lengths counts output output' a g z in
    read_back w.kind coordinates lengths counts output output' a.length w.written corners corners' rings rings' polygons polygons' r h
