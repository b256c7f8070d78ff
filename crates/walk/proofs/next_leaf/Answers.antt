-- `walk::next_leaf` meets its contract: node by node, until a leaf is in hand.
use Rattle.std.proofs.lemmas.Result.{err_from_is_err_and}
use Rattle.walk.proofs.Turning.{going_never, going_on, going_end}
use Rattle.walk.proofs.next_leaf.Goals as goal

pub returns-then-here-eq0 : goal.returns-then-here-eq0
returns-then-here-eq0 c =
    let a = c.args in
    let l = c.loop-here in
    going_end a.plan.now.n a.plan.now.boxes.now a.plan.now.parts.now a.plan.now.edges.now a.query a.stack.now a.cursor l.stack l.here l.invariant c.if-here-eq0.true c.loop-here-test.true

pub returns-in_err-here : goal.returns-in_err-here
returns-in_err-here c =
    let a = c.args in
    let l = c.loop-here in
    let refused = err_from_is_err_and c.from_residual.result c.from_residual.ensures.1 in
    rw refused.1 (going_never a.plan.now.n a.plan.now.boxes.now a.plan.now.parts.now a.plan.now.edges.now a.query a.stack.now a.cursor l.stack l.here l.invariant c.loop-here-test.true _ c.in_err-here.ensures)

pub loop-here-preserved : goal.loop-here-preserved
loop-here-preserved c =
    let a = c.args in
    let l = c.loop-here in
    going_on a.plan.now.n a.plan.now.boxes.now a.plan.now.parts.now a.plan.now.edges.now a.query a.stack.now a.cursor l.stack l.here l.invariant c.loop-here-test.true _ _ c.in_ok-here.ensures
