-- `gather::collect::note` meets its contract.
use Rattle.gather.proofs.Collecting.{met_found}
use Rattle.gather.proofs.collect.note.Goals as goal

pub returns : goal.returns
returns c =
    let a = c.args in
    let crossing = c.crossing_along-crossing in
    record { crossing = crossing.result; found = met_found a.plan.now.n a.plan.now.count a.plan.now.corners.now a.plan.now.rings.now a.ray a.p a.e c.in_ok-edge.edge c.in_ok-edge.ensures crossing.result crossing.ensures; counts = c.in-Some.ensures }
