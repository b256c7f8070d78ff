-- `answers::replies::put_replies` meets its contract.
use mathlib.Core.Path.{◌≡◌}
use Prim.Native.Nat.{◌+◌}
use Rattle.std.specs.Iterator.Adapters.{enumerate_source, enumerate_count}
use Rattle.fields.specs.Lines.{lines_left}
use Rattle.rules.specs.Tables.{plan_of}
use Rattle.answers.proofs.Replying.{Replying}
use Rattle.answers.proofs.replies.put_replies.Given as goal

abbrev pub invariant-loop-k : goal.invariant-loop-k
invariant-loop-k l =
    (goal.iterator-loop-k).can_next l.k-iterator
    × (goal.iterator-loop-k).is_finite l.k-iterator
    × Replying (plan_of l.state l.tables.corners.now l.tables.rings.now l.tables.polygons.now) l.input l.first l.number l.initial.output.bytes.now l.output.bytes.now l.output.at (l.number + enumerate_count l.k-iterator) (lines_left (enumerate_source l.k-iterator))
    × (l.output.bytes.ghost_name ≡ l.initial.output.bytes.ghost_name)
