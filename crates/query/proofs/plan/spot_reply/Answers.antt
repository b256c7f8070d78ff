-- `query::plan::spot_reply` meets its contract: what the call of each grid says.
use Rattle.std.specs.Prelude.{Ok}
use Rattle.std.proofs.Common.{sym, ◌∙◌, ap, subst}
use Rattle.rules.specs.declared.Spot.{Spot}
use Rattle.query.specs.Calls.{SpotShown}
use Rattle.query.proofs.Fits.{half_is}
use Rattle.query.proofs.plan.spot_reply.Goals as goal

pub returns-in-OnGrid : goal.returns-in-OnGrid
returns-in-OnGrid c =
    let a = c.args in
    let shown = c.kind_reply.ensures in
    subst (λ (spot : Spot). SpotShown a.form a.kind a.coordinates.now a.rings.now a.polygons.now spot c.kind_reply.result) (sym c.in-OnGrid.is)
    (record { placed = shown.placed; exact = λ fits near. shown.exact fits })

pub returns-in-Doubled : goal.returns-in-Doubled
returns-in-Doubled c =
    let a = c.args in
    let shown = c.parity_reply.ensures in
    subst (λ (spot : Spot). SpotShown a.form a.kind a.coordinates.now a.rings.now a.polygons.now spot c.parity_reply.result) (sym c.in-Doubled.is)
    (record { placed = shown.placed; exact = λ fits near. shown.exact fits.by_ring ∙ ap Ok (half_is a.form a.kind a.coordinates.now a.rings.now a.polygons.now c.in-Doubled.p near) })
