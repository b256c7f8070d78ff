-- `gather::region::region_along` meets its contract.
use native.Mathlib.Omega.{arith}
use Rattle.std.proofs.lemmas.Result.{err_from_is_err_and}
use Rattle.std.specs.Prelude.{Ok, Err}
use Rattle.index.proofs.Counts.{node_count_some}
use Rattle.gather.specs.Lent.{plan_in}
use Rattle.gather.specs.Regions.{region_reply}
use Rattle.gather.proofs.Looking.{looked_beyond, looked_all}
use Rattle.gather.proofs.region.region_along.Goals as goal

pub returns-then-state-gt-MAX_RINGS : goal.returns-then-state-gt-MAX_RINGS
returns-then-state-gt-MAX_RINGS c =
    let a = c.args in
    let t = a.tables.now in
    looked_beyond a.state t.corners.now t.rings.now t.polygons.now t.boxes.now t.parts.now t.edges.now (region_reply (plan_in a.state t) a.p) c.if-state-gt-MAX_RINGS.true

pub region-requires : goal.region-requires
region-requires c = (c.if-state-gt-MAX_RINGS.false, omega (arith, c.if-not-are_enough.ensures.boxes_reach, node_count_some c.args.state.corners))

pub returns-in_err-region : goal.returns-in_err-region
returns-in_err-region c =
    let a = c.args in
    let t = a.tables.now in
    let refused = err_from_is_err_and c.from_residual.result c.from_residual.ensures.1 in
    rw (refused.1, refused.2) (looked_all a.state t.corners.now t.rings.now t.polygons.now t.boxes.now t.parts.now t.edges.now (region_reply (plan_in a.state t) a.p) c.if-not-are_enough.ensures (Err c.in_err-region.field-0.0) c.in_err-region.ensures)

pub returns : goal.returns
returns c =
    let a = c.args in
    let t = a.tables.now in
    looked_all a.state t.corners.now t.rings.now t.polygons.now t.boxes.now t.parts.now t.edges.now (region_reply (plan_in a.state t) a.p) c.if-not-are_enough.ensures (Ok _) c.in_ok-region.ensures
