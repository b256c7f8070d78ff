-- `writer::put_polygons` meets its contract.
use Rattle.writer.proofs.Members.{Listing}
use Rattle.writer.proofs.put_polygons.Given as goal

abbrev pub invariant-loop-i : goal.invariant-loop-i
invariant-loop-i l = let p = l.plan-inside in Listing p.coordinates.now p.lengths.now p.counts.now l.at l.initial.output l.output l.place l.first l.ring l.i
