-- `capi::exports::findspot_locate_by_rings` meets its contract.
use Rattle.geom.specs.Range.{in_range}
use Rattle.rules.specs.Plans.{plan_reply}
use Rattle.rules.specs.Tables.{plan_of}
use Rattle.query.specs.Calls.{LookedUp}
use Rattle.states.specs.States.{state_named}
use Rattle.states.proofs.Replying.{replied_read}
use Rattle.capi.proofs.exports.findspot_locate_by_rings.Goals as goal

pub returns : goal.returns
returns c =
    let a = c.args in
    replied_read (state_named a.state) (λ p s reply. LookedUp s a.corners.now a.rings.now a.polygons.now (in_range p) (plan_reply (plan_of s a.corners.now a.rings.now a.polygons.now) p) reply) a.x a.y c.look_up_by_rings.result c.ranges.x c.ranges.y (record { sfits = c.look_up_by_rings.type_inv }) c.look_up_by_rings.ensures
