-- `cut::selection::select` meets its contract: each round halves the values that a number of the window can have (`Selectings`).
use native.Mathlib.Omega.{arith}
use Rattle.cut.proofs.Selectings.{rounds_start, rounds_left, rounds_right}
use Rattle.cut.proofs.selection.select.Goals as goal
use Rattle.cut.proofs.selection.select.Goals.{then-middle-split, else-middle-split}

pub loop-init : goal.loop-init
loop-init c =
    let a = c.args in
    let span = c.span_of-scan.result.span in
    let found = c.span_of-scan.ensures in
    (rw found.read (rounds_start a.lo a.middle a.hi a.values.now span.least span.greatest c.requires.0 c.requires.1 c.requires.2 (omega arith) found.spans), omega arith)

pub loop-preserved : goal.loop-preserved
loop-preserved c =
    let split = c.partition-split in
    let a = c.args in
    let l = c.loop in
    elim c.if-middle-split.branch [
      | then-middle-split w ↦ rw (w.p-is, w.q-is, w.a-is, w.b-is, split.ensures.read) (
        rounds_left a.lo a.middle a.hi a.values.now l.values l.p l.q l.a l.b l.reads l.counter l.invariant.0 split.new.values split.result.place
            split.ensures.parted c.requires.3 (omega arith) (omega arith) (omega arith) (omega arith) w.if-middle-split.true,
        omega arith,
      )
      | else-middle-split w ↦ rw (w.p-is, w.q-is, w.a-is, w.b-is, split.ensures.read) (
        rounds_right a.lo a.middle a.hi a.values.now l.values l.p l.q l.a l.b l.reads l.counter l.invariant.0 split.new.values split.result.place
            split.ensures.parted c.requires.3 (omega arith) (omega arith) (omega arith) (omega arith) w.if-middle-split.false,
        omega arith,
      )
    ]
