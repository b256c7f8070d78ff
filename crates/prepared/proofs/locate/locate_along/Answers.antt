-- `prepared::locate::locate_along` meets its contract: settled before a table is read, or by the walks.
use Rattle.std.proofs.Common.{◌≡◌, true, sym, ◌∙◌, ap, subst}
use Rattle.rules.specs.declared.Spot.{Spot}
use Rattle.rules.specs.declared.Spot.TheVariants.{OnGrid, Doubled}
use Rattle.rules.specs.Spots.{spot_in_range, spot_reply}
use Rattle.rules.specs.Tables.{plan_of}
use Rattle.prepared.specs.Calls.{Looked}
use Rattle.prepared.proofs.Lookings.{marked, beyond, walked, in_range_lem}
use Rattle.prepared.proofs.locate.locate_along.Goals as goal
use Rattle.prepared.proofs.locate.locate_along.Goals.{then-state-via-then-state, then-state-via-else-state+then-not-in_range}
use Rattle.prepared.proofs.locate.locate_along.Goals.{Else-not-in_range}

pub returns-then-state : goal.returns-then-state
returns-then-state c =
    let a = c.args in
    let t = a.tables.now in
    let place = spot_reply (plan_of a.state t.corners.now t.rings.now t.polygons.now) a.spot in
    elim c.then-state.branch [
      | then-state-via-then-state w ↦ marked a.state t.corners.now t.rings.now t.polygons.now t.boxes.now t.parts.now t.edges.now (spot_in_range a.spot) place w.if-state.true
      | then-state-via-else-state+then-not-in_range w ↦ beyond a.state t.corners.now t.rings.now t.polygons.now t.boxes.now t.parts.now t.edges.now (spot_in_range a.spot) place (sym w.in_range.ensures ∙ w.if-not-in_range.true)
    ]

-- the spot is in range
ranged : (c : Else-not-in_range) → spot_in_range c.args.spot ≡ true
ranged c = sym c.in_range.ensures ∙ c.if-not-in_range.false

pub returns-in-OnGrid : goal.returns-in-OnGrid
returns-in-OnGrid c =
    let a = c.args in
    let near = ap spot_in_range (sym c.in-OnGrid.is) ∙ ranged (goal.at.returns-in-OnGrid c).Else-not-in_range in
    subst (λ (spot : Spot). Looked a.state a.tables.now.corners.now a.tables.now.rings.now a.tables.now.polygons.now a.tables.now.boxes.now a.tables.now.parts.now a.tables.now.edges.now (spot_in_range spot) (spot_reply (plan_of a.state a.tables.now.corners.now a.tables.now.rings.now a.tables.now.polygons.now) spot) c.region_along.result) (sym c.in-OnGrid.is)
    (walked a.state a.tables.now.corners.now a.tables.now.rings.now a.tables.now.polygons.now a.tables.now.boxes.now a.tables.now.parts.now a.tables.now.edges.now _ _ c.if-state.false near _ (in_range_lem a.state a.tables.now.corners.now a.tables.now.rings.now a.tables.now.polygons.now a.tables.now.boxes.now a.tables.now.parts.now a.tables.now.edges.now (OnGrid c.in-OnGrid.p) near) c.region_along.result c.region_along.ensures)

pub returns-in-Doubled : goal.returns-in-Doubled
returns-in-Doubled c =
    let a = c.args in
    let near = ap spot_in_range (sym c.in-Doubled.is) ∙ ranged (goal.at.returns-in-Doubled c).Else-not-in_range in
    subst (λ (spot : Spot). Looked a.state a.tables.now.corners.now a.tables.now.rings.now a.tables.now.polygons.now a.tables.now.boxes.now a.tables.now.parts.now a.tables.now.edges.now (spot_in_range spot) (spot_reply (plan_of a.state a.tables.now.corners.now a.tables.now.rings.now a.tables.now.polygons.now) spot) c.half_along.result) (sym c.in-Doubled.is)
    (walked a.state a.tables.now.corners.now a.tables.now.rings.now a.tables.now.polygons.now a.tables.now.boxes.now a.tables.now.parts.now a.tables.now.edges.now _ _ c.if-state.false near _ (in_range_lem a.state a.tables.now.corners.now a.tables.now.rings.now a.tables.now.polygons.now a.tables.now.boxes.now a.tables.now.parts.now a.tables.now.edges.now (Doubled c.in-Doubled.p) near) c.half_along.result c.half_along.ensures)
