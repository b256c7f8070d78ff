-- `corrections::move_corner` meets its contract.
use mathlib.Core.Path.{◌≡◌, refl, sym, ap, ◌∙◌}
use mathlib.Core.Bool.{true}
use lib.ListN.{length}
use Rattle.std.proofs.lemmas.Result.{err_from_is_err_and}
use Rattle.model.specs.declared.Answer.TheVariants.{Refused}
use Rattle.model.specs.declared.Call.TheVariants.{Move}
use Rattle.model.specs.Prepared.{prepared_of}
use Rattle.model.specs.Steps.{settling, move_early, Open}
use Rattle.model.proofs.Ways.{open_move, early_move}
use Rattle.model.proofs.Tables.{move_settled}
use Rattle.corrections.proofs.Correcting.{moved_step, unmade_step}
use Rattle.corrections.proofs.move_corner.Goals as goal
use Rattle.corrections.proofs.move_corner.Goals.{In_ok-move_early}

-- nothing was settled early
unsettled : (c : In_ok-move_early) → let a = c.args in move_early a.state (length a.undo.now) true a.corner a.place ≡ Open
unsettled c = sym c.move_early.ensures ∙ ap settling c.in_ok-move_early.was

pub returns-in_err-move_early : goal.returns-in_err-move_early
returns-in_err-move_early c =
    let a = c.args in
    let refused = err_from_is_err_and c.from_residual.result c.from_residual.ensures.1 in
    λ polygons. rw (refused.1, refused.2) (move_settled (prepared_of a.state a.corners.now a.rings.now polygons a.boxes.now a.parts.now a.edges.now a.undo.now) a.corner a.place (Refused c.in_err-move_early.field-0.0) (sym c.move_early.ensures ∙ ap settling c.in_err-move_early.was))

pub returns-in_err-old : goal.returns-in_err-old
returns-in_err-old c =
    let a = c.args in
    let still_open = unsettled (goal.at.returns-in_err-old c).In_ok-move_early in
    let refused = err_from_is_err_and c.from_residual-in_err-old.result c.from_residual-in_err-old.ensures.1 in
    λ polygons. unmade_step a.state a.corners.now a.rings.now polygons a.boxes.now a.parts.now a.edges.now a.undo.now a.corner a.place _ _ (Move a.corner a.place) c.from_residual-in_err-old.result (rw (refused.1, refused.2) refl) (early_move (prepared_of a.state a.corners.now a.rings.now polygons a.boxes.now a.parts.now a.edges.now a.undo.now) a.corner a.place ∙ still_open) (open_move a.state (length a.undo.now) true a.corner a.place still_open).corner c.in_err-old.ensures

pub returns : goal.returns
returns c =
    let a = c.args in
    λ polygons. moved_step a.state a.corners.now a.rings.now polygons a.boxes.now a.parts.now a.edges.now a.undo.now a.corner a.place _ _ c.in_ok-old.field-0 c.in_ok-old.ensures c.at_depth.result c.at_depth.ensures _ c.put_record.ensures (unsettled (goal.at.returns c).In_ok-move_early)
