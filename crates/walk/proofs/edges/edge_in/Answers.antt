-- `walk::edges::edge_in` meets its contract.
use mathlib.Core.Path.{ap, ◌∙◌}
use native.Mathlib.Omega.{arith}
use Rattle.rules.specs.Plans.{corner_at}
use Rattle.walk.proofs.EdgeEnds.{next_astray, edge_found}
use Rattle.walk.proofs.edges.edge_in.Goals as goal

pub returns-then-n-next : goal.returns-then-n-next
returns-then-n-next c =
    let a = c.args in
    next_astray a.n a.count a.corners.now a.rings.now a.e _ c.in_ok-ring.ensures.1 (omega (arith, c.if-n-next.true, c.next_corner-next.ensures))

pub returns : goal.returns
returns c =
    let a = c.args in
    edge_found a.n a.count a.corners.now a.rings.now a.e _ c.in_ok-ring.ensures.1 _ _ (omega arith) (omega arith) c.in_ok-ring.ensures.0 c.corner_at.ensures (omega (arith, c.if-n-next.false, c.next_corner-next.ensures))
    (c.corner_at-2.ensures ∙ ap (corner_at a.corners.now) c.next_corner-next.ensures)
