-- `refit::path_to` meets its contract.
use mathlib.Core.Path.{◌≡◌}
use Prim.Native.Nat.{◌-◌}
use lib.ListN.{get_or}
use Rattle.index.specs.Build.{KeptFrom}
use Rattle.refit.specs.Paths.{Leads}
use Rattle.refit.proofs.path_to.Given as goal

abbrev pub invariant-loop-child : goal.invariant-loop-child
invariant-loop-child l = KeptFrom 18 l.initial.path l.path × Leads l.parts l.nodes l.k l.path l.depth × (l.p ≡ get_or l.path (l.depth - 1) 0)

abbrev pub decreases-loop-child : goal.decreases-loop-child
decreases-loop-child l = 18 - l.depth
