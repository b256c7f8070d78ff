-- `gather::half::parity_by` meets its contract, leaf by leaf.
use mathlib.Core.Path.{◌≡◌}
use lib.ListN.{length}
use Rattle.walk.specs.Steps.{remaining}
use Rattle.rays.specs.Numbered.{half_crossing_at}
use Rattle.gather.specs.Collections.{WalkedSound}
use Rattle.gather.proofs.HalfCrossing.{HalfWalking}
use Rattle.gather.proofs.half.parity_by.Given as goal

abbrev pub invariant-loop-leaf : goal.invariant-loop-leaf
invariant-loop-leaf l =
    (length l.stack ≡ 18) × (WalkedSound l.plan.n l.plan.count l.plan.corners.now l.plan.rings.now l.plan.boxes.now l.plan.parts.now l.plan.edges.now → HalfWalking l.plan.n l.plan.corners.now l.plan.rings.now l.plan.parts.now l.plan.edges.now l.query (half_crossing_at l.plan.n l.plan.corners.now l.plan.rings.now l.ray l.p) l.stack l.cursor l.here.odd)

abbrev pub decreases-loop-leaf : goal.decreases-loop-leaf
decreases-loop-leaf l = remaining l.cursor
