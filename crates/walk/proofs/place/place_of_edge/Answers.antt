-- `walk::place::place_of_edge` meets its contract.
use Rattle.walk.proofs.Seeking.{walked_says}
use Rattle.walk.proofs.place.place_of_edge.Goals as goal

pub returns : goal.returns
returns c =
    let a = c.args in
    walked_says a.plan.now.n a.plan.now.count a.plan.now.corners.now a.plan.now.rings.now a.plan.now.boxes.now a.plan.now.parts.now a.plan.now.edges.now a.e _ c.in_ok-edge.ensures c.new.result c.new.ensures c.walk_to.result c.walk_to.ensures
