-- `scanner::polygons::polygon` meets its contract.
use mathlib.Core.Path.{◌≡◌}
use Prim.Native.Nat.{◌-◌}
use lib.ListN.{length}
use Rattle.scanner.proofs.PolygonScans.{Rings}
use Rattle.scanner.proofs.polygons.polygon.Given as goal

abbrev pub invariant-loop-more : goal.invariant-loop-more
invariant-loop-more l = Rings l.text l.at l.extent l.initial.corners l.corners l.initial.lengths l.lengths l.so_far l.place × (l.counts ≡ l.initial.counts)

abbrev pub decreases-loop-more : goal.decreases-loop-more
decreases-loop-more l = length l.text - l.place
