-- `lines::tables::write_plan` meets its contract: the tables start with the plan of the lines so far.
use Rattle.fields.specs.Lines.{lines_left}
use Rattle.lines.proofs.Writing.{Writing}
use Rattle.lines.proofs.tables.write_plan.Given as goal

abbrev pub invariant-loop-line : goal.invariant-loop-line
invariant-loop-line l =
    (goal.iterator-loop-line).can_next l.line-iterator
    × (goal.iterator-loop-line).is_finite l.line-iterator
    × Writing l.text l.initial.corners l.initial.lengths l.initial.counts l.corners l.lengths l.counts l.done (lines_left l.line-iterator)
