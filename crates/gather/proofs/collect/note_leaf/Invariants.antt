-- `gather::collect::note_leaf` meets its contract, edge by edge.
use mathlib.Core.Path.{◌≡◌}
use Prim.Native.Nat.{◌≤◌}
use lib.ListN.{length}
use Rattle.boxes.specs.Rings.{RingEnds}
use Rattle.walk.specs.declared.Query.{Query}
use Rattle.gather.specs.Tallies.{is_listed, Room}
use Rattle.gather.specs.Collections.{ToldTo}
use Rattle.gather.proofs.collect.note_leaf.Given as goal

abbrev pub invariant-loop-k : goal.invariant-loop-k
invariant-loop-k l =
    Room l.here.layout (length l.listed) (length l.slots) × (is_listed l.here.layout ≡ is_listed l.initial.here.layout) × ((query : Query) → l.plan.n ≤ 1048576 → l.to ≤ l.plan.n → RingEnds l.plan.n l.plan.count l.plan.rings.now → ToldTo l.plan.n l.plan.count l.plan.corners.now l.plan.rings.now l.plan.edges.now l.ray query l.p l.at l.initial.here.layout l.initial.listed l.initial.slots → ToldTo l.plan.n l.plan.count l.plan.corners.now l.plan.rings.now l.plan.edges.now l.ray query l.p l.k l.here.layout l.listed l.slots)
