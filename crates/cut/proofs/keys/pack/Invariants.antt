-- `cut::keys::pack` meets its contract, place by place (`Packing`).
use Prim.Native.Nat.{◌+◌, ◌<◌}
use Rattle.cut.specs.Keys.{packed_edge, Mapped}
use Rattle.cut.proofs.keys.pack.Given as goal

abbrev pub invariant-loop-i : goal.invariant-loop-i
invariant-loop-i l = (l.i < l.first + l.size → l.ring < l.count) × Mapped (packed_edge l.corners l.rings l.axis) l.first l.i l.initial.edges l.edges
