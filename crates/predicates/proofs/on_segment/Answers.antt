-- `predicates::on_segment` meets its contract: off the box the answer is false, in it the turn decides.
use Rattle.predicates.specs.Turn.{on_segment}
use Rattle.std.proofs.Common.{arith}
use Rattle.std.proofs.lemmas.Grind.{common_steps}
use Rattle.predicates.proofs.on_segment.Goals as goal

pub returns-then-contains_point : goal.returns-then-contains_point
unfolding on_segment
returns-then-contains_point c = grind (arith, common_steps)

pub returns-else-contains_point : goal.returns-else-contains_point
unfolding on_segment
returns-else-contains_point c = grind (arith, common_steps)
