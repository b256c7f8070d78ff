-- `refit::leaf_box` meets its contract.
use mathlib.Core.Path.{◌≡◌}
use Prim.Native.Nat.{◌<◌}
use Rattle.refit.specs.Refits.{leaf_box}
use Rattle.refit.proofs.leaf_box.Given as goal

abbrev pub invariant-loop-j : goal.invariant-loop-j
invariant-loop-j l = (0 < l.j) × (l.b ≡ leaf_box l.corners l.edges l.stops l.first l.j)
