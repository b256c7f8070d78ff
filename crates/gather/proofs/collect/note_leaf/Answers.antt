-- `gather::collect::note_leaf` meets its contract, edge by edge.
use mathlib.Core.Path.{◌∙◌}
use native.Mathlib.Omega.{arith}
use Rattle.gather.proofs.Collecting.{told_on}
use Rattle.gather.proofs.collect.note_leaf.Goals as goal

pub loop-k-preserved : goal.loop-k-preserved
loop-k-preserved c =
    let a = c.args in
    let l = c.loop-k in
    let more = c.loop-k-test.true in
    let N = c.in_ok-here.ensures in (
      N.counts.room,
      N.counts.same ∙ l.invariant.1,
      λ query few fits ends t. told_on a.plan.now.n a.plan.now.count a.plan.now.corners.now a.plan.now.rings.now a.plan.now.edges.now ends few a.ray query a.p l.k l.here.layout l.listed l.slots _ _ _ _ (omega (arith, more, fits)) (l.invariant.2 query few fits ends t) N,
    )
