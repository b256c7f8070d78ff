-- `query::plan::kind_reply` meets its contract: what the list's or the tree's call says.
use Rattle.std.specs.Prelude.{Ok}
use mathlib.Core.Path.{refl, sym, ◌∙◌, ap, subst}
use Rattle.rules.specs.declared.Kind.{Kind}
use Rattle.query.specs.Calls.{PlanShown}
use Rattle.query.proofs.Fits.{list_is, tree_is}
use Rattle.query.proofs.plan.kind_reply.Goals as goal

pub returns-in-Polygons : goal.returns-in-Polygons
returns-in-Polygons c =
    let a = c.args in
    subst (λ (kind : Kind). PlanShown a.form kind a.coordinates.now a.rings.now a.polygons.now a.p c.list_reply.result) (sym c.in-Polygons.is)
    (record { placed = c.list_reply.ensures.placed; exact = λ f. c.list_reply.ensures.exact f.by_ring (f.by_polygon refl) ∙ ap Ok (list_is a.form a.coordinates.now a.rings.now a.polygons.now a.p) })

pub returns-in-Tree : goal.returns-in-Tree
returns-in-Tree c =
    let a = c.args in
    subst (λ (kind : Kind). PlanShown a.form kind a.coordinates.now a.rings.now a.polygons.now a.p c.parity_reply.result) (sym c.in-Tree.is)
    (record { placed = c.parity_reply.ensures.placed; exact = λ f. c.parity_reply.ensures.exact f.by_ring ∙ ap Ok (tree_is a.form a.coordinates.now a.rings.now a.polygons.now a.p) })
