-- `index::count::node_count` meets its contract, level by level (`Counts.Level`).
use Rattle.index.proofs.Counts.{Level}
use Rattle.index.proofs.count.node_count.Given as goal

abbrev pub invariant-loop-size : goal.invariant-loop-size
invariant-loop-size l = Level l.n l.above l.size l.lesser l.greater

abbrev pub decreases-loop-size : goal.decreases-loop-size
decreases-loop-size l = l.size
