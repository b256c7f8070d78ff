-- `prepared::first::first_not_outside` meets its contract. The invariant: every point so far is outside.
use Rattle.std.proofs.lemmas.Result.{err_from_is_err_and}
use mathlib.Core.Path.{sym, ◌∙◌}
use mathlib.Core.Bool.{true, false}
use native.Mathlib.Omega.{arith}
use Rattle.rings.proofs.Tests.{ne_outside}
use Rattle.prepared.proofs.Listing.{going_none, going_more, says_none, says_at, says_unsound, says_judged}
use Rattle.prepared.proofs.first.first_not_outside.Goals as goal

pub returns-in_err-judge_points : goal.returns-in_err-judge_points
returns-in_err-judge_points c = let a = c.args in let p = err_from_is_err_and c.from_residual.result c.from_residual.ensures.1 in rw (p.1, p.2) (says_judged a.state a.tables.now.corners.now a.tables.now.rings.now a.tables.now.polygons.now a.tables.now.boxes.now a.tables.now.parts.now a.tables.now.edges.now a.points.now _ (sym c.judge_points.ensures.verdict ∙ c.in_err-judge_points.was))

pub loop-k-init : goal.loop-k-init
loop-k-init c = let a = c.args in going_none a.state a.tables.now.corners.now a.tables.now.rings.now a.tables.now.polygons.now a.tables.now.boxes.now a.tables.now.parts.now a.tables.now.edges.now a.points.now (sym c.judge_points.ensures.verdict ∙ c.in_ok-judge_points.was)

pub corner_at-requires : goal.corner_at-requires
corner_at-requires c = let h = c.loop-k-test.true in omega arith

pub returns-in_err-location : goal.returns-in_err-location
returns-in_err-location c = let a = c.args in let p = err_from_is_err_and c.from_residual-in_err-location.result c.from_residual-in_err-location.ensures.1 in rw (p.1, p.2) (says_unsound a.state a.tables.now.corners.now a.tables.now.rings.now a.tables.now.polygons.now a.tables.now.boxes.now a.tables.now.parts.now a.tables.now.edges.now a.points.now c.loop-k.k c.loop-k.invariant c.loop-k-test.true c.corner_at.result c.corner_at.ensures _ (rw c.in_err-location.was at c.locate.ensures))

pub returns-then-ne : goal.returns-then-ne
returns-then-ne c = let a = c.args in says_at a.state a.tables.now.corners.now a.tables.now.rings.now a.tables.now.polygons.now a.tables.now.boxes.now a.tables.now.parts.now a.tables.now.edges.now a.points.now c.loop-k.k c.loop-k.invariant c.loop-k-test.true c.corner_at.result c.corner_at.ensures c.in_ok-location.location (rw c.in_ok-location.was at c.locate.ensures) (ne_outside c.in_ok-location.location c.ne.result false c.ne.ensures c.if-ne.true)

pub loop-k-preserved : goal.loop-k-preserved
loop-k-preserved c = let a = c.args in going_more a.state a.tables.now.corners.now a.tables.now.rings.now a.tables.now.polygons.now a.tables.now.boxes.now a.tables.now.parts.now a.tables.now.edges.now a.points.now c.loop-k.k c.loop-k.invariant c.loop-k-test.true c.corner_at.result c.corner_at.ensures c.in_ok-location.location (rw c.in_ok-location.was at c.locate.ensures) (ne_outside c.in_ok-location.location c.ne.result true c.ne.ensures c.if-ne.false)

pub returns : goal.returns
returns c = let a = c.args in says_none a.state a.tables.now.corners.now a.tables.now.rings.now a.tables.now.polygons.now a.tables.now.boxes.now a.tables.now.parts.now a.tables.now.edges.now a.points.now c.loop-k.k c.loop-k.invariant c.loop-k-test.false
