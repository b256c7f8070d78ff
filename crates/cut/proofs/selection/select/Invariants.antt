-- `cut::selection::select` meets its contract: each round halves the values that a number of the window can have (`Selectings`).
use Prim.Native.Nat.{◌-◌, ◌≤◌}
use Rattle.cut.proofs.Selectings.{Rounds}
use Rattle.cut.proofs.selection.select.Given as goal

abbrev pub invariant-loop : goal.invariant-loop
invariant-loop l = Rounds l.lo l.middle l.hi l.initial.values l.values l.p l.q l.a l.b l.reads l.counter × (l.b ≤ l.initial.b)

abbrev pub decreases-loop : goal.decreases-loop
decreases-loop l = 64 - l.counter
