-- What the export that writes Well-Known Text answers (document 02, R-1).
use Rattle.std.specs.Prelude.{◌≡◌, List, ℕ, ℤ, None, Option, Result, Some}
use Rattle.rules.specs.declared.Kind.TheVariants.{Tree}
use Rattle.rules.specs.Plans.{plan_verdict}
use Rattle.wkt.specs.declared.numbers.WriteNumbers.{WriteNumbers}
use Rattle.wkt.specs.Numbers.{write_numbers}
use Rattle.wkt.specs.Writings.{unnamed_writing, WktWritten}
use Rattle.rules.specs.declared.Kind.{Kind}
use Rattle.rules.specs.declared.Refusal.{Refusal}

-- by what is promised of a plan of this kind; where the number names no kind, its own answer, and the output as it was
abbrev pub WriteSays : (Option Kind) → List ℤ → List ℕ → List ℕ → List ℕ → List ℕ → WriteNumbers → Type 0
WriteSays None coordinates lengths counts output output' answer = (output' ≡ output) × (answer ≡ write_numbers (unnamed_writing (plan_verdict (record { kind = Tree; coordinates = coordinates; lengths = lengths; counts = counts }))))
WriteSays (Some kind) coordinates lengths counts output output' answer = (writing : Result ℕ Refusal) × WktWritten (record { kind = kind; coordinates = coordinates; lengths = lengths; counts = counts }) output output' writing × (answer ≡ write_numbers writing)
