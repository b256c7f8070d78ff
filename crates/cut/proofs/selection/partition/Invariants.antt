-- `cut::selection::partition` meets its contract: one turn reads a number, and moves it in front if it is at most v (`Partings`).
use mathlib.Core.Path.{◌≡◌}
use Prim.Native.Nat.{◌+◌}
use lib.ListN.{length}
use Rattle.cut.proofs.Partings.{Parting}
use Rattle.cut.proofs.selection.partition.Given as goal

abbrev pub invariant-loop-i : goal.invariant-loop-i
invariant-loop-i l = Parting l.lo l.hi l.v l.initial.values l.values l.place l.i × (length l.values ≡ length l.initial.values) × (l.reads + l.lo ≡ l.i)
