-- `prepare::tables::put_ends` meets its contract.
use Rattle.prepare.proofs.Filling.{Ending}
use Rattle.prepare.proofs.tables.put_ends.Given as goal

abbrev pub invariant-loop-i : goal.invariant-loop-i
invariant-loop-i l = Ending l.lengths l.initial.table l.table l.end l.i
