-- `prepare::tables::put_ends` meets its contract.
use native.Mathlib.Omega.{arith}
use Rattle.prepare.proofs.Filling.{ending_none, end_most, ending_more, ending_all}
use Rattle.prepare.proofs.tables.put_ends.Goals as goal

pub loop-i-init : goal.loop-i-init
loop-i-init c = ending_none c.args.lengths.now c.args.table.now

pub overflow_add-end : goal.overflow_add-end
overflow_add-end c =
    let a = c.args in
    let l = c.loop-i in
    let most = end_most a.lengths.now a.table.now l.table l.end l.i c.requires.reach l.invariant c.loop-i-test.true in
    let few = c.requires.few in
    record { fits = omega arith }

pub loop-i-preserved : goal.loop-i-preserved
loop-i-preserved c =
    let a = c.args in
    let l = c.loop-i in
    ending_more a.lengths.now a.table.now l.table l.end l.i c.requires.reach l.invariant c.loop-i-test.true

pub shape_of-table : goal.shape_of-table
shape_of-table c = c.loop-i.invariant.stored.long

pub returns : goal.returns
returns c =
    let a = c.args in
    let l = c.loop-i in
    ending_all a.lengths.now a.table.now l.table l.end l.i c.requires.reach l.invariant c.loop-i-test.false
