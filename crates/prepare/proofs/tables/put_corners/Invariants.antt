-- `prepare::tables::put_corners` meets its contract.
use Rattle.prepare.proofs.Filling.{Stored}
use Rattle.prepare.proofs.tables.put_corners.Given as goal

abbrev pub invariant-loop-i : goal.invariant-loop-i
invariant-loop-i l = Stored l.coordinates l.initial.corners l.corners l.i
