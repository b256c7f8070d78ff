-- `refit::refit` meets its contract.
use mathlib.Core.Path.{◌≡◌}
use Prim.Native.Nat.{◌≤◌}
use Rattle.refit.specs.Refits.{joined}
use Rattle.refit.proofs.refit.Given as goal

abbrev pub invariant-loop-k : goal.invariant-loop-k
invariant-loop-k l = (l.k ≤ l.above) × (joined l.parts l.path l.k l.boxes ≡ joined l.parts l.path l.above l.initial.boxes)
