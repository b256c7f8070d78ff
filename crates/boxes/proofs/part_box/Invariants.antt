-- `boxes::part_box` meets its contract: the box of the edges read so far.
use mathlib.Core.Path.{◌≡◌}
use Prim.Native.Nat.{◌<◌}
use Rattle.boxes.specs.Boxes.{box_of}
use Rattle.boxes.proofs.part_box.Given as goal

abbrev pub invariant-loop-k : goal.invariant-loop-k
invariant-loop-k l = (l.ring < l.count) × (l.b ≡ box_of l.corners l.rings l.edges l.first l.k)
