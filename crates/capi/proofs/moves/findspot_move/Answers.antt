-- `capi::moves::findspot_move` meets its contract.
use mathlib.Core.Path.{sym, ap, ◌∙◌}
use mathlib.Core.List.{List}
use Prim.Native.Nat.{ℕ}
use Rattle.std.specs.Result.{result_ok}
use Rattle.geom.specs.declared.Point.{Point}
use Rattle.model.specs.declared.Call.TheVariants.{Move}
use Rattle.model.specs.Prepared.{prepared_of}
use Rattle.model.specs.Steps.{Step}
use Rattle.corrections.specs.Answering.{answered, state_after}
use Rattle.states.specs.States.{state_named}
use Rattle.states.proofs.Replying.{place_read}
use Rattle.capi.proofs.Namings.{correction_known}
use Rattle.capi.proofs.moves.findspot_move.Goals as goal

pub returns : goal.returns
returns c =
    let a = c.args in
    let f = c.move_corner-correction in
    let known = c.in-Ok.known in
    let moved =
    place_read
    (λ (p : Point). (polygons : List ℕ) → Step (Move a.corner p) (prepared_of known a.corners.now a.rings.now polygons a.boxes.now a.parts.now a.edges.now a.undo.now) (answered f.result) (prepared_of (state_after known f.result) f.new.corners a.rings.now polygons f.new.boxes a.parts.now a.edges.now f.new.undo))
    a.x a.y c.ranges.x c.ranges.y f.ensures in
    correction_known (state_named a.state) known _ _ _ f.result _ (sym c.try_from.ensures ∙ ap result_ok c.in-Ok.is) moved c.new.ensures
