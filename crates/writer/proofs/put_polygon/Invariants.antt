-- `writer::put_polygon` meets its contract.
use Rattle.writer.proofs.Polygons.{Drawing}
use Rattle.writer.proofs.put_polygon.Given as goal

abbrev pub invariant-loop-i : goal.invariant-loop-i
invariant-loop-i l = Drawing l.coordinates l.lengths l.at l.initial.output l.output l.place l.first l.i
