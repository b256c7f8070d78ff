-- `refit::leaf_box` meets its contract.
use mathlib.Core.Path.{sym, ap, ◌∙◌}
use native.Mathlib.Omega.{arith}
use Rattle.geom.specs.Boxes.{union_of}
use Rattle.refit.specs.Refits.{leaf_box}
use Rattle.refit.proofs.Fitting.{leaf_none, leaf_one, leaf_more}
use Rattle.refit.proofs.leaf_box.Goals as goal

pub returns-then-size-eq0 : goal.returns-then-size-eq0
returns-then-size-eq0 c =
    let a = c.args in
    c.empty.ensures ∙ sym (ap (leaf_box a.corners.now a.edges.now a.stops.now a.first) c.if-size-eq0.true ∙ leaf_none a.corners.now a.edges.now a.stops.now a.first)

pub loop-j-init : goal.loop-j-init
loop-j-init c =
    let a = c.args in
    (omega arith, c.span-b.ensures ∙ sym (leaf_one a.corners.now a.edges.now a.stops.now a.first))

pub loop-j-preserved : goal.loop-j-preserved
loop-j-preserved c =
    let a = c.args in
    let l = c.loop-j in
    (omega arith, c.union-b.ensures ∙ (λ i. union_of (l.invariant.1 i) (c.span.ensures i)) ∙ sym (leaf_more a.corners.now a.edges.now a.stops.now a.first l.j l.invariant.0))
