-- `boxes::ring_of` meets its contract: the ring sought starts no later than e from `lo` on, and ends after e at `hi`.
use Prim.Native.Nat.{◌-◌, ◌≤◌, ◌<◌}
use lib.ListN.{get_or}
use Rattle.boxes.specs.Rings.{start_of}
use Rattle.boxes.proofs.ring_of.Given as goal

abbrev pub invariant-loop-lo : goal.invariant-loop-lo
invariant-loop-lo l = (l.lo ≤ l.hi) × (l.hi < l.count) × (l.e < get_or l.rings l.hi 0) × (start_of l.rings l.lo ≤ l.e)

abbrev pub decreases-loop-lo : goal.decreases-loop-lo
decreases-loop-lo l = l.hi - l.lo
