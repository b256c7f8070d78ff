-- `walk::next_leaf` meets its contract: node by node, until a leaf is in hand.
use Prim.Native.Nat.{◌-◌}
use Rattle.walk.specs.Steps.{Going}
use Rattle.walk.proofs.next_leaf.Given as goal

abbrev pub invariant-loop-here : goal.invariant-loop-here
invariant-loop-here l = Going l.plan.n l.plan.boxes.now l.plan.parts.now l.plan.edges.now l.query l.initial.stack l.initial.here l.stack l.here

abbrev pub decreases-loop-here : goal.decreases-loop-here
decreases-loop-here l = l.here.nodes - l.here.met
