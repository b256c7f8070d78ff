-- `prepared::locate::locate` meets its contract: the reply is the same for each ray.
use Rattle.std.proofs.Common.{sym, ◌∙◌}
use Rattle.rules.specs.Spots.{spot_in_range, spot_reply}
use Rattle.rules.specs.Tables.{plan_of}
use Rattle.prepared.proofs.Lookings.{marked, beyond}
use Rattle.prepared.proofs.locate.locate.Goals as goal
use Rattle.prepared.proofs.locate.locate.Goals.{then-state-via-then-state, then-state-via-else-state+then-not-in_range}

pub returns-then-state : goal.returns-then-state
returns-then-state c =
    let a = c.args in
    let t = a.tables.now in
    let place = spot_reply (plan_of a.state t.corners.now t.rings.now t.polygons.now) a.spot in
    elim c.then-state.branch [
      | then-state-via-then-state w ↦ marked a.state t.corners.now t.rings.now t.polygons.now t.boxes.now t.parts.now t.edges.now (spot_in_range a.spot) place w.if-state.true
      | then-state-via-else-state+then-not-in_range w ↦ beyond a.state t.corners.now t.rings.now t.polygons.now t.boxes.now t.parts.now t.edges.now (spot_in_range a.spot) place (sym w.in_range.ensures ∙ w.if-not-in_range.true)
    ]

pub returns : goal.returns
returns c = c.locate_along.ensures
