-- `rings::ring::ring_winding` meets its contract. The invariant: what is counted so far and the edges still to come make up the ring.
use mathlib.Core.Path.{◌≡◌, sym, ◌∙◌, ap, subst}
use Prim.Native.Nat.{◌+◌}
use mathlib.Core.Bool.{not}
use lib.Dec.{eqb}
use native.Mathlib.Omega.{arith}
use mir.Syntax.{w64}
use mir.Val.{to_z}
use Rattle.integers.proofs.Bits.{abs_fits, rd_is}
use Rattle.rings.specs.Crossings.{crossing_of, with_edge}
use Rattle.rings.proofs.Rounds.{Counted, corners_on, none_left, opened, rounded, touched, counted, empty}
use Rattle.rings.proofs.ring.ring_winding.Given.{Over}
use Rattle.rings.proofs.ring.ring_winding.Goals as goal
use Rattle.rings.proofs.ring.ring_winding.Goals.{After-with_edge}

pub returns-then-first-end : goal.returns-then-first-end
returns-then-first-end g c = let a = c.args in
    let half = not (eqb g.row.DOUBLED 0) in
    empty (corners_on half a.coordinates.now a.first a.end) a.p (ap (corners_on half a.coordinates.now a.first) (sym c.if-first-end.true) ∙ none_left half a.coordinates.now a.first)

pub loop-i-init : goal.loop-i-init
loop-i-init g c = let a = c.args in opened (not (eqb g.row.DOUBLED 0)) a.coordinates.now a.p a.first a.end (omega arith) c.corner-start.result (omega arith) c.corner-start.ensures

pub with_edge-requires : goal.with_edge-requires
with_edge-requires g c = let h = c.loop-i.invariant.small in omega (arith, h, c.requires)

-- what `with_edge` said of the edge
told : (g : Over) (c : After-with_edge g) → c.with_edge.result ≡ with_edge (to_z w64 c.loop-i.winding-bits) (crossing_of c.loop-i.a c.corner-b.result c.args.p)
told g c = c.with_edge.ensures ∙ ap (with_edge (to_z w64 c.loop-i.winding-bits)) c.crossing.ensures

pub returns-in_err-winding : goal.returns-in_err-winding
returns-in_err-winding g c = let a = c.args in let l = c.loop-i in
    c.from_residual.ensures
    ∙ touched (not (eqb g.row.DOUBLED 0)) a.coordinates.now a.p a.first a.end (omega arith) c.corner-start.result l.a (to_z w64 l.winding-bits) l.i l.invariant c.corner-b.result (omega arith) c.corner-b.ensures
    c.with_edge.result (told g (goal.at.returns-in_err-winding g c).After-with_edge) c.in_err-winding.was

pub loop-i-preserved : goal.loop-i-preserved
loop-i-preserved g c = let a = c.args in let l = c.loop-i in
    let half = not (eqb g.row.DOUBLED 0) in
    let w = c.in_ok-winding.winding in
    let next : Counted half a.coordinates.now a.p a.first a.end c.corner-start.result c.corner-b.result w (l.i + 1)
    = counted half a.coordinates.now a.p a.first a.end (omega arith) c.corner-start.result l.a (to_z w64 l.winding-bits) l.i l.invariant c.corner-b.result (omega arith) c.corner-b.ensures
    c.with_edge.result (told g (goal.at.loop-i-preserved g c).After-with_edge) w c.in_ok-winding.was in
    subst (λ w. Counted half a.coordinates.now a.p a.first a.end c.corner-start.result c.corner-b.result w (l.i + 1)) (sym (rd_is w (abs_fits w (omega (arith, next.small, next.inside, c.requires))))) next

pub with_edge-requires-2 : goal.with_edge-requires-2
with_edge-requires-2 g c = let h = c.loop-i.invariant.small in omega (arith, h, c.requires)

pub returns : goal.returns
returns g c = let a = c.args in let l = c.loop-i in
    c.with_edge-2.ensures ∙ ap (with_edge (to_z w64 l.winding-bits)) c.crossing-2.ensures
    ∙ rounded (not (eqb g.row.DOUBLED 0)) a.coordinates.now a.p a.first a.end (omega arith) c.corner-start.result l.a (to_z w64 l.winding-bits) l.i l.invariant (omega arith)
