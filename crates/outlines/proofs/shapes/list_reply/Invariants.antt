-- `outlines::shapes::list_reply` meets its contract. The invariant: the strongest reply so far and the polygons still to come, with the
use mathlib.Core.List.{List}
use Prim.Native.Nat.{ℕ, ◌/◌, ◌≤◌}
use lib.IntN.{ℤ}
use lib.ListN.{length}
use Rattle.geom.specs.declared.Point.{Point}
use Rattle.rules.specs.declared.Location.{Location}
use Rattle.rules.specs.Plans.{corners_of}
use Rattle.outlines.specs.declared.rows.Form.{Form}
use Rattle.outlines.specs.Rows.{Within, parts_from}
use Rattle.outlines.proofs.Alignment.{Aligned}
use Rattle.outlines.proofs.Progress.{Reached}
use Rattle.outlines.proofs.Steps.{Weighed}
use Rattle.outlines.proofs.shapes.list_reply.Given as goal

-- ring table kept in step.
-- what is known of the polygons still to come, if the ring table fits
abbrev pub Best : Form → List ℤ → List ℕ → List ℕ → Point → Location → List (List (List Point)) → Type 0
Best form coordinates rings polygons p best later =
    Within form (length coordinates / 2) 0 rings → Weighed (parts_from form (parts_from form (corners_of coordinates) 0 rings) 0 polygons) p best later

abbrev pub invariant-loop-entry : goal.invariant-loop-entry
invariant-loop-entry l =
    Reached l.form (length l.rings) 0 (parts_from l.form (corners_of l.coordinates) 0 l.rings) l.polygons l.first l.entry-index (Best l.form l.coordinates l.rings l.polygons l.p l.best)
    × (l.start ≤ length l.coordinates / 2)
    × ((w : Within l.form (length l.coordinates / 2) 0 l.rings) → Aligned l.form (length l.coordinates / 2) (corners_of l.coordinates) l.rings w l.first l.start)
