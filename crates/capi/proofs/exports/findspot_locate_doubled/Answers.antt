-- `capi::exports::findspot_locate_doubled` meets its contract.
use Rattle.geom.specs.Range.{in_doubled_range}
use Rattle.rules.specs.Plans.{plan_half_reply}
use Rattle.rules.specs.Tables.{plan_of}
use Rattle.prepared.specs.Calls.{Looked}
use Rattle.states.specs.States.{state_named}
use Rattle.states.proofs.Replying.{replied_read}
use Rattle.capi.proofs.exports.findspot_locate_doubled.Goals as goal

pub returns : goal.returns
returns c =
    let a = c.args in
    replied_read (state_named a.state) (λ p s reply. Looked s a.corners.now a.rings.now a.polygons.now a.boxes.now a.parts.now a.edges.now (in_doubled_range p) (plan_half_reply (plan_of s a.corners.now a.rings.now a.polygons.now) p) reply) a.x a.y c.look_up.result c.ranges.x c.ranges.y (record { sfits = c.look_up.type_inv }) c.look_up.ensures
