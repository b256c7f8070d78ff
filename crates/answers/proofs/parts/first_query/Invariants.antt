-- `answers::parts::first_query` meets its contract.
use Prim.Native.Nat.{◌+◌}
use Rattle.std.specs.Iterator.Adapters.{enumerate_source, enumerate_count}
use Rattle.fields.specs.Lines.{lines_left}
use Rattle.answers.proofs.Searching.{Passing}
use Rattle.answers.proofs.parts.first_query.Given as goal

abbrev pub invariant-loop-k : goal.invariant-loop-k
invariant-loop-k l =
    (goal.iterator-loop-k).can_next l.k-iterator
    × (goal.iterator-loop-k).is_finite l.k-iterator
    × Passing l.input l.from (enumerate_count l.k-iterator + 1) (lines_left (enumerate_source l.k-iterator))
