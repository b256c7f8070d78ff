-- `outlines::parity::parity_reply` meets its contract. The invariant: no edge hit so far, and the parity of the rings so far.
use Rattle.std.specs.Prelude.{Ok}
use Rattle.std.proofs.Common.{rules}
use mathlib.Core.Path.{refl, sym, ◌∙◌, ap, subst}
use mathlib.Core.Bool.{Bool, false, not, beq}
use mathlib.Core.Logic.{inl}
use mathlib.Core.List.{List}
use Prim.Native.Nat.{◌+◌, ◌/◌}
use native.Mathlib.Omega.{arith}
use lib.Dec.{eqb}
use lib.ListN.{length, drop, get_or}
use Rattle.geom.specs.declared.Point.{Point}
use Rattle.integers.proofs.Bits.{rd_is}
use Rattle.rules.specs.declared.Location.TheVariants.{OnBoundary}
use Rattle.rules.specs.Lists.{xor}
use Rattle.rules.specs.Plans.{corners_of}
use Rattle.rings.specs.Parts.{part}
use Rattle.outlines.specs.Rows.{parts_from, EndSays}
use Rattle.outlines.specs.Shapes.{turns_over}
use Rattle.outlines.proofs.Progress.{misfit_shown, begun, refused, over, ahead, onward}
use Rattle.outlines.proofs.ParitySteps.{differs, Even, none_counted, ring_counted, ring_touched, all_counted, place_is}
use Rattle.outlines.proofs.parity.parity_reply.Given.{Over}
use Rattle.outlines.proofs.parity.parity_reply.Goals as goal
use Rattle.outlines.proofs.parity.parity_reply.Goals.{In_ok-end, In-loop-entry}

-- the rings as the table cuts them, and what the loop knows of those still to come
abbrev rings_of : (g : Over) (c : In-loop-entry g) → List (List Point)
rings_of g c = let a = c.args in parts_from a.form (corners_of a.coordinates.now) 0 a.rings.now

abbrev Rest : (g : Over) (c : In-loop-entry g) → Bool → List (List Point) → Type 0
Rest g c odd = Even (not (eqb g.row.DOUBLED 0)) c.args.p (rings_of g c) odd

pub loop-entry-init : goal.loop-entry-init
loop-entry-init g c = let a = c.args in
    let rings = parts_from a.form (corners_of a.coordinates.now) 0 a.rings.now in
    begun a.form (length a.coordinates.now / 2) 0 (corners_of a.coordinates.now) a.rings.now (Even (not (eqb g.row.DOUBLED 0)) a.p rings false) (omega arith) (none_counted (not (eqb g.row.DOUBLED 0)) a.p rings)

pub returns-in_err-end : goal.returns-in_err-end
returns-in_err-end g c = let a = c.args in let l = c.loop-entry in
    misfit_shown _ _ _ _ _ _ c.from_residual.ensures.1 (λ w. refused a.form (length a.coordinates.now / 2) 0 (corners_of a.coordinates.now) a.rings.now l.at l.entry-index (Rest g (goal.at.returns-in_err-end g c).In-loop-entry l.odd) l.invariant (omega arith) c.in_err-end.ensures w)

-- what `end_of` said of the entry
says : (g : Over) (c : In_ok-end g) → let a = c.args in EndSays a.form (get_or a.rings.now c.loop-entry.entry-index 0) c.loop-entry.at (length a.coordinates.now / 2) (Ok c.in_ok-end.end)
says g c = c.in_ok-end.ensures

pub returns-in_default : goal.returns-in_default
returns-in_default g c = let a = c.args in let l = c.loop-entry in let e = c.in_ok-end.end in
    let half = not (eqb g.row.DOUBLED 0) in
    let rings = rings_of g (goal.at.returns-in_default g c).In-loop-entry in
    record {
      placed = inl (OnBoundary, refl);
      exact = λ w. ap Ok (
          ring_touched half a.p rings l.odd (part (corners_of a.coordinates.now) l.at e) (parts_from a.form (corners_of a.coordinates.now) e (drop (l.entry-index + 1) a.rings.now))
          (ahead a.form (length a.coordinates.now / 2) 0 (corners_of a.coordinates.now) a.rings.now l.at l.entry-index (Even half a.p rings l.odd) l.invariant e (omega arith) (says g (goal.at.returns-in_default g c).In_ok-end) w)
          (sym c.ring_winding.ensures ∙ c.in_default.is)
          ∙ place_is half a.p rings);
    }

pub loop-entry-preserved : goal.loop-entry-preserved
loop-entry-preserved g c = let a = c.args in let l = c.loop-entry in let e = c.in_ok-end.end in
    let half = not (eqb g.row.DOUBLED 0) in
    let rings = rings_of g (goal.at.loop-entry-preserved g c).In-loop-entry in
    onward a.form (length a.coordinates.now / 2) 0 (corners_of a.coordinates.now) a.rings.now l.at l.entry-index (Even half a.p rings l.odd) l.invariant e (omega arith) (says g (goal.at.loop-entry-preserved g c).In_ok-end) (Even half a.p rings (not (beq l.odd c.turns_over-odd.result)))
    (λ later n. subst (λ odd. Even half a.p rings odd later) (sym (differs l.odd c.turns_over-odd.result ∙ ap (xor l.odd) (c.turns_over-odd.ensures ∙ ap (turns_over half) (rd_is c.in-Some.winding (search rules))))) (ring_counted half a.p rings l.odd (part (corners_of a.coordinates.now) l.at e) later n c.in-Some.winding (sym c.ring_winding.ensures ∙ c.in-Some.is)))

pub returns : goal.returns
returns g c = let a = c.args in let l = c.loop-entry in
    let half = not (eqb g.row.DOUBLED 0) in
    let rings = parts_from a.form (corners_of a.coordinates.now) 0 a.rings.now in
    record {
      placed = inl (c.odd_place.result, refl);
      exact = λ w. ap Ok (c.odd_place.ensures ∙ all_counted half a.p rings l.odd (over a.form (length a.coordinates.now / 2) 0 (corners_of a.coordinates.now) a.rings.now l.at l.entry-index (Even half a.p rings l.odd) l.invariant (omega arith) w) ∙ place_is half a.p rings);
    }
