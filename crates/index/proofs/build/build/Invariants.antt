-- `index::build::build` meets its contract: the state of the tables and the stack (`Building`).
use Rattle.rules.specs.Nodes.{node_count}
use Rattle.index.proofs.Building.{Building}
use Prim.Native.Nat.{◌+◌, ◌-◌, ◌*◌}
use Rattle.index.proofs.Readings.{Reading}
use Rattle.index.proofs.build.build.Given as goal

abbrev pub invariant-loop-top : goal.invariant-loop-top
invariant-loop-top l =
    Building l.n l.corners l.rings l.initial.boxes l.initial.parts l.initial.edges l.boxes l.parts l.edges l.waiting l.top l.free × Reading l.corners l.rings l.initial.boxes l.initial.parts l.initial.edges l.boxes l.parts l.edges l.waiting l.top l.free l.reads

abbrev pub decreases-loop-top : goal.decreases-loop-top
decreases-loop-top l = 3 * (node_count l.n - l.free) + l.top
