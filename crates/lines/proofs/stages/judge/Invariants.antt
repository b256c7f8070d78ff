-- `lines::stages::judge` meets its contract: the size is that of the lines so far.
use Prim.Native.Nat.{◌+◌}
use Rattle.std.specs.Iterator.Adapters.{enumerate_source, enumerate_count}
use Rattle.fields.specs.Lines.{lines_left}
use Rattle.lines.proofs.Judging.{Judging}
use Rattle.lines.proofs.stages.judge.Given as goal

abbrev pub invariant-loop-k : goal.invariant-loop-k
invariant-loop-k l =
    (goal.iterator-loop-k).can_next l.k-iterator
    × (goal.iterator-loop-k).is_finite l.k-iterator
    × Judging l.text l.so_far (enumerate_count l.k-iterator + 1) (lines_left (enumerate_source l.k-iterator))
