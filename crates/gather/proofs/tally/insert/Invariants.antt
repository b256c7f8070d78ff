-- `gather::tally::insert` meets its contract.
use Prim.Native.Nat.{◌≤◌}
use lib.IntN.{pos}
use Rattle.gather.proofs.Shifting.{Shifted}
use Rattle.gather.proofs.tally.insert.Given as goal

abbrev pub invariant-loop-j : goal.invariant-loop-j
invariant-loop-j l = (l.k ≤ l.j) × (l.j ≤ l.used) × Shifted 0 l.initial.listed l.used l.j l.listed × Shifted (pos 0) l.initial.slots l.used l.j l.slots
