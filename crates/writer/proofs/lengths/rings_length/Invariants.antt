-- `writer::lengths::rings_length` meets its contract.
use Rattle.writer.proofs.Measures.{Measuring}
use Rattle.writer.proofs.lengths.rings_length.Given as goal

abbrev pub invariant-loop-corners : goal.invariant-loop-corners
invariant-loop-corners l = Measuring l.coordinates l.lengths l.sum l.first l.corners-index
