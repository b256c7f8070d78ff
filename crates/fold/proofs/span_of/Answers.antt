-- `fold::span_of` meets its contract: a table that fits is never found too short.
use native.Mathlib.Omega.{arith}
use Rattle.boxes.proofs.Rings.{searchable}
use Rattle.fold.proofs.span_of.Goals as goal
use Rattle.fold.proofs.span_of.Goals.{then-polygons-count-via-then-polygons-count, then-polygons-count-via-else-polygons-count+then-count-eq0, then-polygons-count-via-else-polygons-count+else-count-eq0+then-polygons-count-2}

pub returns-then-polygons-count : goal.returns-then-polygons-count
returns-then-polygons-count c = λ n R h.
    let asks = searchable n c.args.count c.args.polygons.now R c.args.ring h in
    elim c.then-polygons-count.branch [
      | then-polygons-count-via-then-polygons-count w ↦ omega (arith, R.reach, w.if-polygons-count.true)
      | then-polygons-count-via-else-polygons-count+then-count-eq0 w ↦ omega (arith, asks, w.if-count-eq0.true)
      | then-polygons-count-via-else-polygons-count+else-count-eq0+then-polygons-count-2 w ↦ omega (arith, asks, w.if-polygons-count-2.true)
    ]
