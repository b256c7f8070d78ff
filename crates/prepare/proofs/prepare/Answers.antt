-- `prepare::prepare` meets its contract.
use Rattle.std.proofs.lemmas.Result.{err_from_is_err_and}
use mathlib.Core.Path.{refl, sym, ◌∙◌}
use Rattle.prepare.specs.Tables.{Tables, room_of}
use Rattle.prepare.proofs.Indexing.{plan_fits, buildable, filled}
use Rattle.prepare.proofs.Numbers.{prepared_as}
use Rattle.prepare.proofs.Rooms.{given}
use Rattle.prepare.proofs.prepare.Goals as goal

pub put_plan-requires : goal.put_plan-requires
put_plan-requires c =
    let a = c.args in
    let plan = a.plan.now in
    let tables : Tables = record { corners = a.corners.now; rings = a.rings.now; polygons = a.polygons.now; boxes = a.boxes.now; parts = a.parts.now; edges = a.edges.now } in
    let answered = sym c.in_ok-ready.was ∙ c.answer.ensures in
    plan_fits plan tables c.in_ok-ready.ready.state c.in_ok-ready.ready.nodes (given plan (room_of tables) c.in_ok-ready.ready.state c.in_ok-ready.ready.nodes answered)

pub put_index-requires : goal.put_index-requires
put_index-requires c =
    let a = c.args in
    let plan = a.plan.now in
    let tables : Tables = record { corners = a.corners.now; rings = a.rings.now; polygons = a.polygons.now; boxes = a.boxes.now; parts = a.parts.now; edges = a.edges.now } in
    let answered = sym c.in_ok-ready.was ∙ c.answer.ensures in
    buildable plan tables c.in_ok-ready.ready.state c.in_ok-ready.ready.nodes (given plan (room_of tables) c.in_ok-ready.ready.state c.in_ok-ready.ready.nodes answered) _ _ _ c.put_plan.ensures

pub returns : goal.returns
returns c =
    let a = c.args in
    let plan = a.plan.now in
    let tables : Tables = record { corners = a.corners.now; rings = a.rings.now; polygons = a.polygons.now; boxes = a.boxes.now; parts = a.parts.now; edges = a.edges.now } in
    let answered = sym c.in_ok-ready.was ∙ c.answer.ensures in
    prepared_as plan tables _ _ answered (filled plan tables c.in_ok-ready.ready.state c.in_ok-ready.ready.nodes (given plan (room_of tables) c.in_ok-ready.ready.state c.in_ok-ready.ready.nodes answered) _ c.put_plan.ensures c.put_index.ensures)

pub returns-in_err-ready : goal.returns-in_err-ready
returns-in_err-ready c = let p = err_from_is_err_and c.from_residual.result c.from_residual.ensures.1 in rw (p.1, p.2) (prepared_as _ _ _ _ (sym c.in_err-ready.was ∙ c.answer.ensures) refl)
