-- `outlines::shapes::holes_reply` meets its contract. The invariants: no hole so far decided; the edges counted so far and those still
use Rattle.std.specs.Prelude.{Ok}
use mathlib.Core.Path.{◌≡◌, refl, sym, ◌∙◌, ap, subst}
use mathlib.Core.Bool.{true, false}
use Prim.Native.Nat.{◌+◌, ◌*◌, ◌/◌, ◌≤◌}
use native.Mathlib.Omega.{arith}
use lib.ListN.{length, get_or}
use mir.Syntax.{w64}
use mir.Val.{to_z}
use Rattle.integers.proofs.Bits.{abs_fits, rd_is}
use Rattle.rules.specs.declared.Location.TheVariants.{Inside, OnBoundary}
use Rattle.rules.specs.Plans.{corners_of}
use Rattle.rules.specs.Replies.{ring_reply, by_hole}
use Rattle.rings.specs.Crossings.{crossing_of, with_edge, ring_winding, place_by}
use Rattle.rings.specs.Parts.{part}
use Rattle.rings.proofs.Rounds.{Counted, corners_on, opened, rounded, touched, counted, on_grid, place_is}
use Rattle.rings.proofs.Tests.{ne_inside}
use Rattle.outlines.specs.Rows.{EndSays}
use Rattle.outlines.proofs.Holes.{none_passed, misfit_refused, all_passed, passed, decided, none_there}
use Rattle.outlines.proofs.shapes.holes_reply.Goals as goal
use Rattle.outlines.proofs.shapes.holes_reply.Goals.{After-with_edge, After-through_hole-place, In_ok-end}

pub holes-init : goal.holes-init
holes-init c = let a = c.args in none_passed a.form a.coordinates.now a.rings.now a.start a.p c.requires

pub end_of-requires : goal.end_of-requires
end_of-requires c = c.holes.invariant.reached.low

pub returns-in_err-end : goal.returns-in_err-end
returns-in_err-end c =
    let a = c.args in
    let h = c.holes in
    misfit_refused a.form a.coordinates.now a.rings.now a.start a.p h.place h.at h.entry-index h.invariant _ c.from_residual.ensures.1 c.holes-test.true c.in_err-end.ensures

-- what `end_of` said of the entry, and so the corners reach
says : (c : In_ok-end) → let a = c.args in let h = c.holes in EndSays a.form (get_or a.rings.now h.entry-index 0) h.at (length a.coordinates.now / 2) (Ok c.in_ok-end.end)
says c = c.in_ok-end.ensures

reaches : (c : In_ok-end) → 2 * c.in_ok-end.end ≤ length c.args.coordinates.now
reaches c = let s = says c in omega arith

pub holes-preserved-then-at-end : goal.holes-preserved-then-at-end
holes-preserved-then-at-end c =
    let a = c.args in
    let h = c.holes in
    let e = c.in_ok-end.end in
    none_there a.form a.coordinates.now a.rings.now a.start a.p h.place h.at h.entry-index h.invariant e c.holes-test.true (says (goal.at.holes-preserved-then-at-end c).In_ok-end) c.if-at-end.true

pub corner_at-first-requires : goal.corner_at-first-requires
corner_at-first-requires c = let s = says (goal.at.corner_at-first-requires c).In_ok-end in omega arith

pub loop-i-init : goal.loop-i-init
loop-i-init c =
    let a = c.args in
    let h = c.holes in
    let e = c.in_ok-end.end in
    let s = says (goal.at.loop-i-init c).In_ok-end in
    opened false a.coordinates.now a.p h.at e (reaches (goal.at.loop-i-init c).In_ok-end) c.corner_at-first.result (omega arith) c.corner_at-first.ensures

pub corner_at-b-requires : goal.corner_at-b-requires
corner_at-b-requires c = let s = reaches (goal.at.corner_at-b-requires c).In_ok-end in omega arith

-- what `with_edge` said of the edge
told : (c : After-with_edge) → c.with_edge.result ≡ with_edge (to_z w64 c.loop-i.winding-bits) (crossing_of c.loop-i.a c.corner_at-b.result c.args.p)
told c = c.with_edge.ensures ∙ ap (with_edge (to_z w64 c.loop-i.winding-bits)) c.crossing_of.ensures

pub with_edge-requires : goal.with_edge-requires
with_edge-requires c = let s = reaches (goal.at.with_edge-requires c).In_ok-end in let h = c.loop-i.invariant.small in omega (arith, h)

pub loop-i-preserved : goal.loop-i-preserved
loop-i-preserved c =
    let a = c.args in
    let h = c.holes in
    let e = c.in_ok-end.end in
    let l = c.loop-i in
    let reach = reaches (goal.at.loop-i-preserved c).In_ok-end in
    let w = c.in-Some.further in
    let next : Counted false a.coordinates.now a.p h.at e c.corner_at-first.result c.corner_at-b.result w (l.i + 1)
    = counted false a.coordinates.now a.p h.at e reach c.corner_at-first.result l.a (to_z w64 l.winding-bits) l.i l.invariant c.corner_at-b.result c.loop-i-test.true c.corner_at-b.ensures
    c.with_edge.result (told (goal.at.loop-i-preserved c).After-with_edge) w c.in-Some.is in
    subst (λ w. Counted false a.coordinates.now a.p h.at e c.corner_at-first.result c.corner_at-b.result w (l.i + 1)) (sym (rd_is w (abs_fits w (omega (arith, next.small, next.inside, reach))))) next

pub with_edge-requires-in-holes : goal.with_edge-requires-in-holes
with_edge-requires-in-holes c = let s = reaches (goal.at.with_edge-requires-in-holes c).In_ok-end in let h = c.loop-i.invariant.small in omega (arith, h)

-- the hole as its corners stand
hole_is : (c : In_ok-end) → let a = c.args in place_by (ring_winding (corners_on false a.coordinates.now c.holes.at c.in_ok-end.end) a.p) ≡ ring_reply (part (corners_of a.coordinates.now) c.holes.at c.in_ok-end.end) a.p
hole_is c = let a = c.args in
    let hole = part (corners_of a.coordinates.now) c.holes.at c.in_ok-end.end in
    ap (λ ring. place_by (ring_winding ring a.p)) (on_grid hole) ∙ place_is hole a.p

-- where the hole leaves the point, once its closing edge is counted
left_at : (c : After-through_hole-place) → let a = c.args in c.through_hole-place.result ≡ by_hole (ring_reply (part (corners_of a.coordinates.now) c.holes.at c.in_ok-end.end) a.p) Inside
left_at c =
    let a = c.args in
    let l = c.loop-i in
    let winding = c.with_edge-in-holes.ensures ∙ ap (with_edge (to_z w64 l.winding-bits)) c.crossing_of-in-holes.ensures ∙ rounded false a.coordinates.now a.p c.holes.at c.in_ok-end.end (reaches (goal.at.After-through_hole-place c).In_ok-end) c.corner_at-first.result l.a (to_z w64 l.winding-bits) l.i l.invariant (omega arith) in
    c.through_hole-place.ensures ∙ ap (λ place. by_hole place Inside) (c.place_by.ensures ∙ ap place_by winding ∙ hole_is (goal.at.After-through_hole-place c).In_ok-end)

pub holes-preserved : goal.holes-preserved
holes-preserved c =
    let a = c.args in
    let h = c.holes in
    let e = c.in_ok-end.end in
    passed a.form a.coordinates.now a.rings.now a.start a.p h.place h.at h.entry-index h.invariant e c.holes-test.true (says (goal.at.holes-preserved c).In_ok-end) c.through_hole-place.result (left_at (goal.at.holes-preserved c).After-through_hole-place) (ne_inside c.through_hole-place.result c.ne.result true c.ne.ensures c.if-ne.false)

pub returns-after-holes : goal.returns-after-holes
returns-after-holes c = let a = c.args in let h = c.holes in all_passed a.form a.coordinates.now a.rings.now a.start a.p h.place h.at h.entry-index h.invariant c.holes-test.false

pub returns-in_default : goal.returns-in_default
returns-in_default c =
    let a = c.args in
    let h = c.holes in
    let e = c.in_ok-end.end in
    let l = c.loop-i in
    let on = touched false a.coordinates.now a.p h.at e (reaches (goal.at.returns-in_default c).In_ok-end) c.corner_at-first.result l.a (to_z w64 l.winding-bits) l.i l.invariant c.corner_at-b.result c.loop-i-test.true c.corner_at-b.ensures c.with_edge.result (told (goal.at.returns-in_default c).After-with_edge) c.in_default.is in
    decided a.form a.coordinates.now a.rings.now a.start a.p h.place h.at h.entry-index h.invariant e c.holes-test.true (says (goal.at.returns-in_default c).In_ok-end) OnBoundary (ap (λ place. by_hole place Inside) (ap place_by on ∙ hole_is (goal.at.returns-in_default c).In_ok-end)) refl

pub returns-then-ne : goal.returns-then-ne
returns-then-ne c =
    let a = c.args in
    let h = c.holes in
    let e = c.in_ok-end.end in
    decided a.form a.coordinates.now a.rings.now a.start a.p h.place h.at h.entry-index h.invariant e c.holes-test.true (says (goal.at.returns-then-ne c).In_ok-end) c.through_hole-place.result (left_at (goal.at.returns-then-ne c).After-through_hole-place) (ne_inside c.through_hole-place.result c.ne.result false c.ne.ensures c.if-ne.true)
