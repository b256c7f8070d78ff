-- `plans::sums_to` meets its contract: what is left of n, less each entry in turn, is 0 at the end where the table sums to n.
use Rattle.plans.proofs.Sums.{start, next, exceeded, finished}
use Rattle.plans.proofs.sums_to.Goals as goal

pub loop-entry-init : goal.loop-entry-init
loop-entry-init c = start c.args.table.now c.args.n

pub returns-then-entry-left : goal.returns-then-entry-left
returns-then-entry-left c =
    let l = c.loop-entry in
    let s = c.args in
    exceeded s.table.now s.n l.left l.entry-index l.invariant c.loop-entry-test.true c.if-entry-left.true

pub loop-entry-preserved : goal.loop-entry-preserved
loop-entry-preserved c =
    let l = c.loop-entry in
    let s = c.args in
    next s.table.now s.n l.left l.entry-index l.invariant c.loop-entry-test.true c.if-entry-left.false

pub returns : goal.returns
returns c =
    let l = c.loop-entry in
    let s = c.args in
    finished s.table.now s.n l.left l.entry-index l.invariant c.loop-entry-test.false
