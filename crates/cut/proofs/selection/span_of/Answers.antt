-- `cut::selection::span_of` meets its contract: the span of what was read so far, and how much that was.
use native.Mathlib.Omega.{arith}
use Rattle.cut.proofs.Selectings.{spans_more}
use Rattle.cut.proofs.selection.span_of.Goals as goal

pub loop-i-preserved : goal.loop-i-preserved
loop-i-preserved c =
    let l = c.loop-i in
    let a = c.args in
    (spans_more a.values.now a.lo l.i l.span.least l.span.greatest c.wider-span.result.least c.wider-span.result.greatest (omega arith) l.invariant.0 c.wider-span.ensures, omega arith)
