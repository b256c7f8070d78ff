-- `outlines::rows::end_of_all` meets its contract. The invariant: the parts from k on end where all of them do, and fit if all of them do.
use mathlib.Core.Path.{◌≡◌}
use Prim.Native.Nat.{◌≤◌}
use lib.ListN.{length, drop}
use Rattle.outlines.specs.Rows.{end_by, Within}
use Rattle.outlines.proofs.rows.end_of_all.Given as goal

abbrev pub invariant-loop-entry : goal.invariant-loop-entry
invariant-loop-entry l =
    (l.entry-index ≤ length l.table) × (l.at ≤ l.limit) × (end_by l.form l.at (drop l.entry-index l.table) ≡ end_by l.form l.start l.table) × (Within l.form l.limit l.start l.table → Within l.form l.limit l.at (drop l.entry-index l.table))
