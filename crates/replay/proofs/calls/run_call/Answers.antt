-- `replay::calls::run_call` meets its contract.
use Rattle.model.specs.Prepared.{Prepared, prepared_of}
use Rattle.replay.proofs.LookUps.{locate_is_step, locate_doubled_is_step}
use Rattle.replay.proofs.calls.run_call.Goals as goal
use Rattle.replay.proofs.calls.run_call.Goals.{Start, in-Locate, in-LocateDoubled}

-- what is given
abbrev given : (c : Start) → Prepared
given c = let a = c.args in prepared_of a.state a.corners.now a.rings.now a.polygons.now a.boxes.now a.parts.now a.edges.now a.undo.now

pub returns-in-Move : goal.returns-in-Move
returns-in-Move c = rw (c.in-Move.is, c.corrected.ensures) (c.move_corner.ensures c.args.polygons.now)

pub returns-in-Undo : goal.returns-in-Undo
returns-in-Undo c = rw (c.in-Undo.is, c.corrected-in-Undo.ensures) (c.undo.ensures c.args.polygons.now)

pub returns : goal.returns
returns c =
    let d = given (goal.at.returns c).Start in
    let f = c.locate in
    rw c.from.ensures
    (elim c.match-call.branch [
      | in-Locate w ↦ rw w.in-Locate.is (locate_is_step d w.in-Locate.p f.result (rw w.spot-is at f.ensures))
      | in-LocateDoubled w ↦ rw w.in-LocateDoubled.is (locate_doubled_is_step d w.in-LocateDoubled.p f.result (rw w.spot-is at f.ensures))
    ])
