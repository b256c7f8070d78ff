-- `gather::half::cross_leaf` meets its contract, edge by edge.
use Rattle.rays.specs.Numbered.{half_crossing_at}
use Rattle.gather.proofs.HalfCrossing.{parity_on_lem}
use Rattle.gather.proofs.half.cross_leaf.Goals as goal

pub loop-k-preserved : goal.loop-k-preserved
loop-k-preserved c =
    let a = c.args in
    let l = c.loop-k in
    λ query ends t. parity_on_lem a.plan.now.n a.plan.now.count a.plan.now.corners.now a.plan.now.rings.now a.plan.now.edges.now query (half_crossing_at a.plan.now.n a.plan.now.corners.now a.plan.now.rings.now a.ray a.p) ends l.k l.here.odd _ (l.invariant query ends t) (rw c.in-Some.is at c.in_ok-further.ensures)
