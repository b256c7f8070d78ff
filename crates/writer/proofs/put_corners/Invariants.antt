-- `writer::put_corners` meets its contract.
use Prim.Native.Nat.{◌/◌, ◌≤◌}
use lib.ListN.{length}
use Rattle.rules.specs.Plans.{corners_of}
use Rattle.grammar.specs.Texts.{pair_text}
use Rattle.writer.proofs.Leads.{Going}
use Rattle.writer.proofs.put_corners.Given as goal

abbrev pub invariant-loop-i : goal.invariant-loop-i
invariant-loop-i l = (l.i ≤ length l.ring / 2) × Going pair_text (corners_of l.ring) l.at l.initial.output l.output l.place l.i
