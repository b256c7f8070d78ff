-- `index::build::number` meets its contract.
use mathlib.Core.Path.{◌≡◌}
use Prim.Native.Nat.{ℕ, ◌<◌}
use lib.ListN.{length, get_or}
use Rattle.index.proofs.build.number.Given as goal

abbrev pub invariant-loop-i : goal.invariant-loop-i
invariant-loop-i l = (length l.edge-items ≡ l.n) × ((k : ℕ) → k < l.i → get_or l.edge-items k 0 ≡ k)
