-- `writer::lengths::decimals` meets its contract.
use Rattle.writer.proofs.Numbers.{Counting}
use Rattle.writer.proofs.lengths.decimals.Given as goal

abbrev pub invariant-loop-z : goal.invariant-loop-z
invariant-loop-z l = Counting l.numbers l.sum l.z-index
