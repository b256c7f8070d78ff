-- `fields::write::put_digits` meets its contract: the digits after those of `left` stand in the output.
use Rattle.fields.proofs.Written.{Unfinished}
use Rattle.fields.proofs.write.put_digits.Given as goal

abbrev pub invariant-loop-left : goal.invariant-loop-left
invariant-loop-left l = Unfinished l.n l.at l.initial.output l.output l.left l.place

abbrev pub decreases-loop-left : goal.decreases-loop-left
decreases-loop-left l = l.left
