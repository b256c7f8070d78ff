-- `gather::collect::collect` meets its contract, leaf by leaf.
use mathlib.Core.Path.{◌≡◌}
use mathlib.Core.List.{[]}
use lib.ListN.{length}
use Rattle.walk.specs.Steps.{remaining}
use Rattle.gather.specs.Tallies.{is_listed, Room, Tallied}
use Rattle.gather.specs.Collections.{WalkedSound}
use Rattle.gather.proofs.Collecting.{Collecting}
use Rattle.gather.proofs.collect.collect.Given as goal

abbrev pub invariant-loop-leaf : goal.invariant-loop-leaf
invariant-loop-leaf l =
    (length l.stack ≡ 18) × Room l.here.layout (length l.listed) (length l.slots) × (is_listed l.here.layout ≡ is_listed l.initial.here.layout) × (WalkedSound l.plan.n l.plan.count l.plan.corners.now l.plan.rings.now l.plan.boxes.now l.plan.parts.now l.plan.edges.now → Tallied l.plan.count [] l.initial.here.layout l.initial.listed l.initial.slots → Collecting l.plan.n l.plan.count l.plan.corners.now l.plan.rings.now l.plan.parts.now l.plan.edges.now l.ray l.query l.p l.stack l.cursor l.here.layout l.listed l.slots)

abbrev pub decreases-loop-leaf : goal.decreases-loop-leaf
decreases-loop-leaf l = remaining l.cursor
