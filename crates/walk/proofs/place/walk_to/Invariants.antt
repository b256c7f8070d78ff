-- `walk::place::walk_to` meets its contract.
use Rattle.walk.specs.Steps.{remaining}
use Rattle.walk.proofs.Seeking.{Seeking}
use Rattle.walk.proofs.place.walk_to.Given as goal

abbrev pub invariant-loop-step : goal.invariant-loop-step
invariant-loop-step l = Seeking l.plan.n l.plan.boxes.now l.plan.parts.now l.plan.edges.now l.fn.wanted l.e l.stack l.cursor

abbrev pub decreases-loop-step : goal.decreases-loop-step
decreases-loop-step l = remaining l.cursor
