-- `gather::half::cross` meets its contract.
use mathlib.Core.Path.{sym, ap, ◌∙◌}
use mathlib.Core.Bool.{true, false}
use Rattle.rules.specs.Lists.{xor}
use Rattle.rings.specs.Crossings.{is_on}
use Rattle.rings.proofs.Tests.{eq_on}
use Rattle.rays.specs.Along.{is_crossed}
use Rattle.rays.specs.Numbered.{half_crossing_at}
use Rattle.rays.proofs.EdgesAlong.{crossed_once_lem}
use Rattle.gather.specs.Collections.{MetFound}
use Rattle.gather.proofs.Collecting.{half_met_found}
use Rattle.gather.proofs.half.cross.Goals as goal
use Rattle.gather.proofs.half.cross.Goals.{After-crossing_along-crossing}

-- how the edge counts
found : (c : After-crossing_along-crossing) → let a = c.args in MetFound a.plan.now.n a.plan.now.count a.plan.now.rings.now (half_crossing_at a.plan.now.n a.plan.now.corners.now a.plan.now.rings.now a.ray a.p) a.e c.in_ok-edge.edge.ring c.crossing_along-crossing.result
found c =
    let a = c.args in
    half_met_found a.plan.now.n a.plan.now.count a.plan.now.corners.now a.plan.now.rings.now a.ray a.p a.e c.in_ok-edge.edge c.in_ok-edge.ensures c.crossing_along-crossing.result _ _ c.doubled_corner.ensures c.doubled_corner-2.ensures c.crossing_along-crossing.ensures

pub returns-then-eq : goal.returns-then-eq
returns-then-eq c = λ R. ap is_on (sym ((found (goal.at.returns-then-eq c).After-crossing_along-crossing).crossing_is R)) ∙ eq_on c.crossing_along-crossing.result c.eq.result true c.eq.ensures c.if-eq.true

pub returns : goal.returns
returns c =
    let F = found (goal.at.returns c).After-crossing_along-crossing in
    record {
      off = λ R. ap is_on (sym (F.crossing_is R)) ∙ eq_on c.crossing_along-crossing.result c.eq.result false c.eq.ensures c.if-eq.false;
      parity = λ R. c.turned_over.ensures ∙ crossed_once_lem c.args.odd c.crossing_along-crossing.result ∙ ap (λ x. xor c.args.odd (is_crossed x)) (F.crossing_is R);
    }
