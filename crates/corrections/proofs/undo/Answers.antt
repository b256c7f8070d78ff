-- `corrections::undo` meets its contract.
use mathlib.Core.Path.{sym, ap, ◌∙◌}
use Rattle.model.specs.Steps.{settling}
use Rattle.corrections.proofs.Correcting.{taken_step}
use Rattle.corrections.proofs.undo.Goals as goal

pub returns : goal.returns
returns c =
    let a = c.args in
    let t = c.take_back in
    λ polygons. taken_step a.state a.corners.now a.rings.now polygons a.boxes.now a.parts.now a.edges.now a.undo.now _ _ t.new.corners t.new.boxes c.in_ok-latest.ensures t.result (sym c.undo_early.ensures ∙ ap settling c.in_ok-undo_early.was) t.ensures
