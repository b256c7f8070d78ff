-- `outlines::shapes::holes_reply` meets its contract. The invariants: no hole so far decided; the edges counted so far and those still
use mathlib.Core.Bool.{false}
use Rattle.rings.proofs.Rounds.{Counted}
use Rattle.outlines.proofs.Holes.{Passed}
use Rattle.outlines.proofs.shapes.holes_reply.Given as goal

-- to come make up the hole.
abbrev pub invariant-loop-i : goal.invariant-loop-i
invariant-loop-i l = Counted false l.coordinates l.p l.at l.end l.first l.a l.winding l.i

abbrev pub invariant-holes : goal.invariant-holes
invariant-holes l = Passed l.form l.coordinates l.rings l.start l.p l.place l.at l.entry-index
