-- `scanner::rings::ring` meets its contract.
use mathlib.Core.Path.{◌≡◌}
use Rattle.scanner.proofs.RingScans.{Round}
use Rattle.scanner.proofs.rings.ring.Given as goal

abbrev pub invariant-loop-count : goal.invariant-loop-count
invariant-loop-count l = Round l.text l.at l.extent.corners l.initial.corners l.corners l.first l.count l.place × (l.lengths ≡ l.initial.lengths)
