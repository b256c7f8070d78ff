-- `cut::keys::unpack` meets its contract, place by place (`Packing`).
use Rattle.cut.specs.Keys.{number_of, Mapped}
use Rattle.cut.proofs.keys.unpack.Given as goal

abbrev pub invariant-loop-i : goal.invariant-loop-i
invariant-loop-i l = Mapped number_of l.first l.i l.initial.edges l.edges
