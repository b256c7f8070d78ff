-- `replay::calls::run_calls` meets its contract. The invariant: a run of k turns whose coded answers stand in the first k places.
use mathlib.Core.Path.{◌≡◌}
use lib.ListN.{length}
use Rattle.model.specs.Prepared.{prepared_of}
use Rattle.replay.proofs.Replaying.{Upto}
use Rattle.replay.proofs.calls.run_calls.Given as goal

abbrev pub invariant-loop-k : goal.invariant-loop-k
invariant-loop-k l =
    (length l.corners ≡ length l.initial.corners) × (length l.boxes ≡ length l.initial.boxes) × (length l.undo ≡ length l.initial.undo)
    × Upto l.calls (prepared_of l.initial.now l.initial.corners l.rings l.polygons l.initial.boxes l.parts l.edges l.initial.undo) l.initial.answers l.k (prepared_of l.now l.corners l.rings l.polygons l.boxes l.parts l.edges l.undo) l.answers
