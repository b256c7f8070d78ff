-- `fold::fold_list` meets its contract: by the place of the ring, in the open polygon or in another.
use mathlib.Core.Path.{◌≡◌, sym, ◌∙◌, ap, subst}
use mathlib.Core.Bool.{true}
use Prim.Native.Nat.{◌≤◌}
use native.Mathlib.Omega.{arith}
use Rattle.std.specs.Prelude.{Option, Some, None}
use Rattle.rings.proofs.Tests.{eq_outside}
use Rattle.fold.specs.declared.ListFold.{ListFold}
use Rattle.fold.specs.Folds.{open_end, list_place_of, first_met}
use Rattle.fold.proofs.Quiet.{only_outside}
use Rattle.fold.proofs.Foldings.{folds_outside, folds_hole, folds_other, none_open}
use Rattle.fold.proofs.fold_list.Goals as goal
use Rattle.fold.proofs.fold_list.Goals.{in-Some+else-ring-polygon, in_default}

pub returns-then-eq : goal.returns-then-eq
returns-then-eq c = let a = c.args in folds_outside a.polygons.now a.count a.list a.ring a.place (only_outside a.place (eq_outside a.place c.eq.result true c.eq.ensures c.if-eq.true))

pub returns-then-ring-polygon : goal.returns-then-ring-polygon
returns-then-ring-polygon c = let a = c.args in
    folds_hole a.polygons.now a.count a.list a.ring a.place _ c.in-Some.polygon c.in-Some.is c.if-ring-polygon.true (ap (λ polygon. record { best = a.list.best; current = Some polygon }) c.with_hole.ensures)

pub returns : goal.returns
returns c = let a = c.args in
    let ended : open_end a.list.current ≤ a.ring
    = elim c.match-list.branch [
      | in-Some+else-ring-polygon w ↦ subst (λ current. open_end current ≤ a.ring) (sym w.in-Some.is) w.if-ring-polygon.false
      | in_default w ↦ none_open a.list.current w.in_default.not-Some a.ring
    ] in
    folds_other a.polygons.now a.count a.list a.ring a.place _ ended _ _ (rw c.in-Some-span_of.field-0-is at c.in-Some-span_of.ensures)
    (λ i. record { best = c.list_place.ensures i; current = Some (record { place = c.first_met.ensures i; end = c.in-Some-span_of.field-0.end }) })
