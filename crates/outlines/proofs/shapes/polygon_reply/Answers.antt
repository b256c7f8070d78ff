-- `outlines::shapes::polygon_reply` meets its contract: the outer ring's reply, or else the holes'.
use Rattle.std.specs.Prelude.{Ok}
use mathlib.Core.Path.{◌≡◌, refl, sym, ◌∙◌, ap, subst}
use mathlib.Core.Bool.{true, false}
use mathlib.Core.Logic.{inl}
use mathlib.Core.List.{List, ◌∷◌}
use Prim.Native.Nat.{◌/◌}
use native.Mathlib.Omega.{arith}
use lib.ListN.{length, drop, get_or}
use Rattle.geom.specs.declared.Point.{Point}
use Rattle.rules.specs.declared.Location.TheVariants.{Outside}
use Rattle.rules.specs.Plans.{corners_of}
use Rattle.rules.specs.Replies.{within_outer, holes_reply, polygon_reply}
use Rattle.rings.specs.Parts.{part}
use Rattle.rings.proofs.Tests.{ne_inside}
use Rattle.outlines.specs.Rows.{Within, parts_from, EndSays}
use Rattle.outlines.specs.Shapes.{Shown}
use Rattle.outlines.proofs.Cuts.{to_the_end, none_left, parts_none}
use Rattle.outlines.proofs.Progress.{misfit_shown, Reached, begun, refused, ahead, onward}
use Rattle.outlines.proofs.Steps.{none_polygon, outer_first, outer_decides, outer_inside}
use Rattle.outlines.proofs.shapes.polygon_reply.Goals as goal
use Rattle.outlines.proofs.shapes.polygon_reply.Goals.{After-ring_reply-outer, In-len1-up, In_ok-end}

abbrev Same : List (List Point) → Point → List (List Point) → Type 0
Same rings p later = polygon_reply rings p ≡ polygon_reply later p

pub returns-in_default : goal.returns-in_default
returns-in_default c =
    let a = c.args in
    let empty = none_left a.rings.now 0 (omega arith) in
    record { placed = inl (Outside, refl); exact = λ w. ap Ok (none_polygon a.p (parts_from a.form (corners_of a.coordinates.now) a.start a.rings.now) (ap (parts_from a.form (corners_of a.coordinates.now) a.start) empty ∙ parts_none a.form (corners_of a.coordinates.now) a.start)) }

-- before the first entry
fresh : (c : In-len1-up) → let a = c.args in Reached a.form (length a.coordinates.now / 2) a.start (corners_of a.coordinates.now) a.rings.now a.start 0 (Same (parts_from a.form (corners_of a.coordinates.now) a.start a.rings.now) a.p)
fresh c = let a = c.args in begun a.form (length a.coordinates.now / 2) a.start (corners_of a.coordinates.now) a.rings.now (Same (parts_from a.form (corners_of a.coordinates.now) a.start a.rings.now) a.p) (omega arith) refl

pub end_of-requires : goal.end_of-requires
end_of-requires c = omega arith

pub returns-in_err-end : goal.returns-in_err-end
returns-in_err-end c =
    let a = c.args in
    misfit_shown _ _ _ _ _ _ c.from_residual.ensures.1 (λ w. refused a.form (length a.coordinates.now / 2) a.start (corners_of a.coordinates.now) a.rings.now a.start 0 (Same (parts_from a.form (corners_of a.coordinates.now) a.start a.rings.now) a.p) (fresh (goal.at.returns-in_err-end c).In-len1-up) (omega arith) c.in_err-end.ensures w)

says : (c : In_ok-end) → let a = c.args in EndSays a.form (get_or a.rings.now 0 0) a.start (length a.coordinates.now / 2) (Ok c.in_ok-end.end)
says c = c.in_ok-end.ensures

pub ring_reply-outer-requires : goal.ring_reply-outer-requires
ring_reply-outer-requires c = let h = says (goal.at.ring_reply-outer-requires c).In_ok-end in omega arith

-- the polygon's reply by its outer ring and its holes
by_outer : (c : After-ring_reply-outer) → let a = c.args in let e = c.in_ok-end.end in Within a.form (length a.coordinates.now / 2) a.start a.rings.now → polygon_reply (parts_from a.form (corners_of a.coordinates.now) a.start a.rings.now) a.p ≡ within_outer c.ring_reply-outer.result (holes_reply (parts_from a.form (corners_of a.coordinates.now) e (drop 1 a.rings.now)) a.p)
by_outer c w =
    let a = c.args in
    let e = c.in_ok-end.end in
    let holes = parts_from a.form (corners_of a.coordinates.now) e (drop 1 a.rings.now) in
    ahead a.form (length a.coordinates.now / 2) a.start (corners_of a.coordinates.now) a.rings.now a.start 0 (Same (parts_from a.form (corners_of a.coordinates.now) a.start a.rings.now) a.p) (fresh (goal.at.After-ring_reply-outer c).In-len1-up) e (omega arith) (says (goal.at.After-ring_reply-outer c).In_ok-end) w
    ∙ outer_first a.p (part (corners_of a.coordinates.now) a.start e ∷ holes) (part (corners_of a.coordinates.now) a.start e) holes refl
    ∙ ap (λ place. within_outer place (holes_reply holes a.p)) (sym c.ring_reply-outer.ensures)

pub returns-then-ne : goal.returns-then-ne
returns-then-ne c =
    let outer = c.ring_reply-outer.result in
    record { placed = inl (outer, refl); exact = λ w. ap Ok (sym (by_outer (goal.at.returns-then-ne c).After-ring_reply-outer w ∙ outer_decides outer _ (ne_inside outer c.ne.result false c.ne.ensures c.if-ne.true))) }

pub holes_reply-requires : goal.holes_reply-requires
holes_reply-requires c = let h = says (goal.at.holes_reply-requires c).In_ok-end in omega arith

pub returns : goal.returns
returns c =
    let a = c.args in
    let e = c.in_ok-end.end in
    let outer = c.ring_reply-outer.result in
    let shown : Shown a.form (length a.coordinates.now / 2) e (drop 1 a.rings.now) (holes_reply (parts_from a.form (corners_of a.coordinates.now) e (drop 1 a.rings.now)) a.p) c.holes_reply.result
    = subst (λ t. Shown a.form (length a.coordinates.now / 2) e t (holes_reply (parts_from a.form (corners_of a.coordinates.now) e t) a.p) c.holes_reply.result) (to_the_end a.rings.now 1) c.holes_reply.ensures in
    let next = onward a.form (length a.coordinates.now / 2) a.start (corners_of a.coordinates.now) a.rings.now a.start 0 (Same (parts_from a.form (corners_of a.coordinates.now) a.start a.rings.now) a.p) (fresh (goal.at.returns c).In-len1-up) e (omega arith) (says (goal.at.returns c).In_ok-end) (λ later. Unit {0}) (λ later same. tt) in
    record {
      placed = shown.placed;
      exact = λ w. shown.exact (next.rest w) ∙ ap Ok (sym (by_outer (goal.at.returns c).After-ring_reply-outer w ∙ outer_inside outer _ (ne_inside outer c.ne.result true c.ne.ensures c.if-ne.false)));
    }
