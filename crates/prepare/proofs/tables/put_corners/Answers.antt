-- `prepare::tables::put_corners` meets its contract.
use Rattle.std.proofs.Common.{rules}
use lib.IntN.{pos}
use Rattle.prepare.proofs.Filling.{stored_none, stored_more, stored_all}
use Rattle.prepare.proofs.tables.put_corners.Goals as goal

pub loop-i-init : goal.loop-i-init
loop-i-init c = stored_none c.args.coordinates.now c.args.corners.now

pub loop-i-preserved : goal.loop-i-preserved
loop-i-preserved c =
    let a = c.args in
    let l = c.loop-i in
    stored_more a.coordinates.now a.corners.now l.corners l.i c.requires l.invariant _ (pos 0) c.loop-i-test.true (search rules)

pub shape_of-corners : goal.shape_of-corners
shape_of-corners c = c.loop-i.invariant.long

pub returns : goal.returns
returns c =
    let a = c.args in
    let l = c.loop-i in
    stored_all a.coordinates.now a.corners.now l.corners l.i c.requires l.invariant c.loop-i-test.false
