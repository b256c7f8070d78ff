-- `rings::ring::ring_winding` meets its contract. The invariant: what is counted so far and the edges still to come make up the ring.
use mathlib.Core.Bool.{not}
use lib.Dec.{eqb}
use Rattle.rings.proofs.Rounds.{Counted}
use Rattle.rings.proofs.ring.ring_winding.Given as goal

abbrev pub invariant-loop-i : goal.invariant-loop-i
invariant-loop-i g l = Counted (not (eqb g.row.DOUBLED 0)) l.coordinates l.p l.first l.end l.start l.a l.winding l.i
