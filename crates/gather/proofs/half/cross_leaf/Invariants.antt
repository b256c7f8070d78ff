-- `gather::half::cross_leaf` meets its contract, edge by edge.
use Rattle.boxes.specs.Rings.{RingEnds}
use Rattle.walk.specs.declared.Query.{Query}
use Rattle.rays.specs.Numbered.{half_crossing_at}
use Rattle.gather.specs.Halves.{ParityTo}
use Rattle.gather.proofs.half.cross_leaf.Given as goal

abbrev pub invariant-loop-k : goal.invariant-loop-k
invariant-loop-k l =
    (query : Query) → RingEnds l.plan.n l.plan.count l.plan.rings.now → ParityTo l.at l.plan.corners.now l.plan.rings.now l.plan.edges.now query (half_crossing_at l.plan.n l.plan.corners.now l.plan.rings.now l.ray l.p) l.initial.here.odd → ParityTo l.k l.plan.corners.now l.plan.rings.now l.plan.edges.now query (half_crossing_at l.plan.n l.plan.corners.now l.plan.rings.now l.ray l.p) l.here.odd
