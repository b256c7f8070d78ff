-- `refit::put_stops` meets its contract.
use Prim.Native.Nat.{◌<◌}
use Rattle.index.specs.Build.{KeptFrom}
use Rattle.refit.specs.Paths.{Stops}
use Rattle.refit.proofs.put_stops.Given as goal

abbrev pub invariant-loop-j : goal.invariant-loop-j
invariant-loop-j l = (l.ring < l.count) × KeptFrom l.size l.initial.stops l.stops × Stops l.n l.count l.rings l.edges l.first l.j l.stops
