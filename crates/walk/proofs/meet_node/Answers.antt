-- `walk::meet_node` meets its contract.
use Rattle.std.proofs.lemmas.Result.{err_from_is_err_and}
use Rattle.walk.proofs.Turning.{advanced_as, met_all, met_outside, met_missed, met_leaf, met_cut}
use Rattle.walk.proofs.meet_node.Goals as goal

pub returns-then-cursor : goal.returns-then-cursor
returns-then-cursor c =
    let a = c.args in
    let p = c.requires in
    met_all a.n a.boxes.now a.parts.now a.query a.stack.now a.cursor p.some p.few_waiting p.passed c.if-cursor.true

pub returns-in_err-end : goal.returns-in_err-end
returns-in_err-end c =
    let a = c.args in
    let p = c.requires in
    let refused = err_from_is_err_and c.from_residual.result c.from_residual.ensures.1 in
    rw refused.1 (met_outside a.n a.boxes.now a.parts.now a.query a.stack.now a.cursor p.some p.few_waiting p.passed c.in_err-end.ensures)

pub returns-in-Missed : goal.returns-in-Missed
returns-in-Missed c =
    let a = c.args in
    let p = c.requires in
    advanced_as a.n a.boxes.now a.parts.now a.query a.stack.now a.cursor p.some p.few_waiting p.passed _ _ _ c.after_node.ensures
    (met_missed a.n a.boxes.now a.parts.now a.query a.stack.now a.cursor p.some p.few_waiting p.passed c.if-cursor.false _ (rw c.in-Missed.is at c.in_ok-end.ensures))

pub returns-in-Leaf : goal.returns-in-Leaf
returns-in-Leaf c =
    let a = c.args in
    let p = c.requires in
    advanced_as a.n a.boxes.now a.parts.now a.query a.stack.now a.cursor p.some p.few_waiting p.passed _ _ _ c.after_node-in-Leaf.ensures
    (met_leaf a.n a.boxes.now a.parts.now a.query a.stack.now a.cursor p.some p.few_waiting p.passed c.if-cursor.false _ _ (rw c.in-Leaf.is at c.in_ok-end.ensures))

pub returns-else-top : goal.returns-else-top
returns-else-top c =
    let a = c.args in
    let p = c.requires in
    advanced_as a.n a.boxes.now a.parts.now a.query a.stack.now a.cursor p.some p.few_waiting p.passed _ _ _ c.after_node-in-Cut.ensures
    (met_cut a.n a.boxes.now a.parts.now a.query a.stack.now a.cursor p.some p.few_waiting p.passed c.if-cursor.false _ _ _ (rw c.in-Cut.is at c.in_ok-end.ensures) c.if-top.false c.push.ensures)
