-- `outlines::parity::parity_reply` meets its contract. The invariant: no edge hit so far, and the parity of the rings so far.
use mathlib.Core.Bool.{not}
use Prim.Native.Nat.{◌/◌}
use lib.Dec.{eqb}
use lib.ListN.{length}
use Rattle.rules.specs.Plans.{corners_of}
use Rattle.outlines.specs.Rows.{parts_from}
use Rattle.outlines.proofs.Progress.{Reached}
use Rattle.outlines.proofs.ParitySteps.{Even}
use Rattle.outlines.proofs.parity.parity_reply.Given as goal

abbrev pub invariant-loop-entry : goal.invariant-loop-entry
invariant-loop-entry g l =
    Reached l.form (length l.coordinates / 2) 0 (corners_of l.coordinates) l.rings l.at l.entry-index (Even (not (eqb g.row.DOUBLED 0)) l.p (parts_from l.form (corners_of l.coordinates) 0 l.rings) l.odd)
