-- `outlines::shapes::list_reply` meets its contract. The invariant: the strongest reply so far and the polygons still to come, with the
use Rattle.std.specs.Prelude.{Ok}
use mathlib.Core.Path.{◌≡◌, refl, sym, ◌∙◌, ap, subst}
use mathlib.Core.Bool.{true}
use mathlib.Core.Logic.{inl}
use mathlib.Core.List.{List, ◌∷◌}
use Prim.Native.Nat.{◌+◌, ◌/◌}
use native.Mathlib.Omega.{arith}
use lib.ListN.{length, drop, get_or}
use Rattle.geom.specs.declared.Point.{Point}
use Rattle.rules.specs.declared.Location.TheVariants.{Outside, Inside}
use Rattle.rules.specs.Plans.{corners_of}
use Rattle.rules.specs.Replies.{polygon_reply, stronger}
use Rattle.rings.specs.Parts.{part}
use Rattle.rings.proofs.Tests.{eq_inside}
use Rattle.outlines.specs.Rows.{Within, parts_from, EndSays}
use Rattle.outlines.proofs.Alignment.{aligned, slice_fits, slice_is, realigned}
use Rattle.outlines.proofs.Progress.{misfit_placed, refused_placed, begun, refused, over, ahead, onward}
use Rattle.outlines.proofs.Steps.{Weighed, polygon_weighed, all_weighed, inside_wins, same_place, at_refused}
use Rattle.outlines.proofs.shapes.list_reply.Invariants.{Best}
use Rattle.outlines.proofs.shapes.list_reply.Goals as goal
use Rattle.outlines.proofs.shapes.list_reply.Goals.{After-polygon_reply, After-stronger-best, In_ok-last}

pub loop-entry-init : goal.loop-entry-init
loop-entry-init c = let a = c.args in
    (begun a.form (length a.rings.now) 0 (parts_from a.form (corners_of a.coordinates.now) 0 a.rings.now) a.polygons.now (Best a.form a.coordinates.now a.rings.now a.polygons.now a.p Outside) (omega arith) (λ w. refl), omega arith, λ w. aligned a.form (length a.coordinates.now / 2) (corners_of a.coordinates.now) a.rings.now w)

pub end_of-requires : goal.end_of-requires
end_of-requires c = c.loop-entry.invariant.0.low

pub returns-in_err-last : goal.returns-in_err-last
returns-in_err-last c =
    let a = c.args in
    let l = c.loop-entry in
    record {
      placed = misfit_placed _ c.from_residual.ensures.1;
      exact = λ w v. absurd (refused a.form (length a.rings.now) 0 (parts_from a.form (corners_of a.coordinates.now) 0 a.rings.now) a.polygons.now l.first l.entry-index (Best a.form a.coordinates.now a.rings.now a.polygons.now a.p l.best) l.invariant.0 (omega arith) c.in_err-last.ensures v);
    }

-- what `end_of` said of the polygon's entry
says : (c : In_ok-last) → let a = c.args in EndSays a.form (get_or a.polygons.now c.loop-entry.entry-index 0) c.loop-entry.first (length a.rings.now) (Ok c.in_ok-last.last)
says c = c.in_ok-last.ensures

pub slice_bounds-polygon-count : goal.slice_bounds-polygon-count
slice_bounds-polygon-count c = let h = says (goal.at.slice_bounds-polygon-count c).In_ok-last in omega arith

pub slice_bounds-polygon-start : goal.slice_bounds-polygon-start
slice_bounds-polygon-start c = let h = says (goal.at.slice_bounds-polygon-start c).In_ok-last in omega arith

pub slice_bounds-polygon-end : goal.slice_bounds-polygon-end
slice_bounds-polygon-end c = let h = says (goal.at.slice_bounds-polygon-end c).In_ok-last in omega arith

pub polygon_reply-requires : goal.polygon_reply-requires
polygon_reply-requires c = let h = c.loop-entry.invariant.1 in omega arith

-- what `polygon_reply` said, of the polygon in the list
shown : (c : After-polygon_reply) → let a = c.args in let l = c.loop-entry in let e = c.in_ok-last.last in
    Within a.form (length a.coordinates.now / 2) 0 a.rings.now → c.polygon_reply.result ≡ Ok (polygon_reply (part (parts_from a.form (corners_of a.coordinates.now) 0 a.rings.now) l.first e) a.p)
shown c w =
    let a = c.args in
    let l = c.loop-entry in
    let e = c.in_ok-last.last in
    let g = l.invariant.2 w in
    c.polygon_reply.ensures.exact (slice_fits a.form (length a.coordinates.now / 2) (corners_of a.coordinates.now) a.rings.now w l.first l.start e g (says (goal.at.After-polygon_reply c).In_ok-last).1)
    ∙ ap (λ rings. Ok (polygon_reply rings a.p)) (sym (slice_is a.form (length a.coordinates.now / 2) (corners_of a.coordinates.now) a.rings.now w l.first l.start e g (says (goal.at.After-polygon_reply c).In_ok-last).1))

pub returns-in_err-place : goal.returns-in_err-place
returns-in_err-place c = record { placed = refused_placed _ _ _ c.polygon_reply.ensures.placed c.in_err-place.was c.from_residual-in_err-place.ensures.1; exact = λ w v. absurd (at_refused _ _ (sym (shown (goal.at.returns-in_err-place c).After-polygon_reply w) ∙ c.in_err-place.was)) }

pub end_of_all-requires : goal.end_of_all-requires
end_of_all-requires c = let h = c.loop-entry.invariant.1 in omega arith

pub returns-in_err-next : goal.returns-in_err-next
returns-in_err-next c =
    let a = c.args in
    let l = c.loop-entry in
    let e = c.in_ok-last.last in
    record {
      placed = misfit_placed _ c.from_residual-in_err-next.ensures.1;
      exact = λ w v. absurd (c.in_err-next.ensures (slice_fits a.form (length a.coordinates.now / 2) (corners_of a.coordinates.now) a.rings.now w l.first l.start e (l.invariant.2 w) (says (goal.at.returns-in_err-next c).In_ok-last).1));
    }

-- the polygon is weighed
weighed : (c : After-stronger-best) → let a = c.args in let l = c.loop-entry in let e = c.in_ok-last.last in
    (later : List (List (List Point))) → (Best a.form a.coordinates.now a.rings.now a.polygons.now a.p l.best) (part (parts_from a.form (corners_of a.coordinates.now) 0 a.rings.now) l.first e ∷ later) → (Best a.form a.coordinates.now a.rings.now a.polygons.now a.p c.stronger-best.result) later
weighed c later r w =
    let a = c.args in
    let l = c.loop-entry in
    let e = c.in_ok-last.last in
    let place : c.in_ok-place.place ≡ polygon_reply (part (parts_from a.form (corners_of a.coordinates.now) 0 a.rings.now) l.first e) a.p = same_place _ _ (sym c.in_ok-place.was ∙ shown (goal.at.After-stronger-best c).After-polygon_reply w) in
    subst (λ best. Weighed (parts_from a.form (parts_from a.form (corners_of a.coordinates.now) 0 a.rings.now) 0 a.polygons.now) a.p best later) (sym (c.stronger-best.ensures ∙ ap (stronger l.best) place)) (polygon_weighed (parts_from a.form (parts_from a.form (corners_of a.coordinates.now) 0 a.rings.now) 0 a.polygons.now) a.p l.best (part (parts_from a.form (corners_of a.coordinates.now) 0 a.rings.now) l.first e) later (r w))

pub returns-then-eq : goal.returns-then-eq
returns-then-eq c =
    let a = c.args in
    let l = c.loop-entry in
    let e = c.in_ok-last.last in
    let later = parts_from a.form (parts_from a.form (corners_of a.coordinates.now) 0 a.rings.now) e (drop (l.entry-index + 1) a.polygons.now) in
    record {
      placed = inl (Inside, refl);
      exact = λ w v. ap Ok (inside_wins (parts_from a.form (parts_from a.form (corners_of a.coordinates.now) 0 a.rings.now) 0 a.polygons.now) a.p c.stronger-best.result later (eq_inside c.stronger-best.result c.eq.result true c.eq.ensures c.if-eq.true) (weighed (goal.at.returns-then-eq c).After-stronger-best later (ahead a.form (length a.rings.now) 0 (parts_from a.form (corners_of a.coordinates.now) 0 a.rings.now) a.polygons.now l.first l.entry-index (Best a.form a.coordinates.now a.rings.now a.polygons.now a.p l.best) l.invariant.0 e (omega arith) (says (goal.at.returns-then-eq c).In_ok-last) v) w));
    }

pub loop-entry-preserved : goal.loop-entry-preserved
loop-entry-preserved c =
    let a = c.args in
    let l = c.loop-entry in
    let e = c.in_ok-last.last in
    let run = c.in_ok-next.ensures in (
      onward a.form (length a.rings.now) 0 (parts_from a.form (corners_of a.coordinates.now) 0 a.rings.now) a.polygons.now l.first l.entry-index (Best a.form a.coordinates.now a.rings.now a.polygons.now a.p l.best) l.invariant.0 e (omega arith) (says (goal.at.loop-entry-preserved c).In_ok-last) (Best a.form a.coordinates.now a.rings.now a.polygons.now a.p c.stronger-best.result) (weighed (goal.at.loop-entry-preserved c).After-stronger-best),
      run.1,
      λ w. realigned a.form (length a.coordinates.now / 2) (corners_of a.coordinates.now) a.rings.now w l.first l.start e (l.invariant.2 w) (says (goal.at.loop-entry-preserved c).In_ok-last).1 c.in_ok-next.next run.0,
    )

pub returns : goal.returns
returns c =
    let a = c.args in
    let l = c.loop-entry in
    record {
      placed = inl (l.best, refl);
      exact = λ w v. ap Ok (all_weighed (parts_from a.form (parts_from a.form (corners_of a.coordinates.now) 0 a.rings.now) 0 a.polygons.now) a.p l.best (over a.form (length a.rings.now) 0 (parts_from a.form (corners_of a.coordinates.now) 0 a.rings.now) a.polygons.now l.first l.entry-index (Best a.form a.coordinates.now a.rings.now a.polygons.now a.p l.best) l.invariant.0 (omega arith) v w));
    }
