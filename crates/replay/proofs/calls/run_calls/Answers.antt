-- `replay::calls::run_calls` meets its contract. The invariant: a run of k turns whose coded answers stand in the first k places.
use mathlib.Core.Path.{refl, ◌∙◌}
use native.Mathlib.Omega.{arith}
use mir.Syntax.{w64}
use mir.Facts.{to_z-of_z}
use Rattle.replay.proofs.Replaying.{upto_none, upto_more, upto_all}
use Rattle.replay.proofs.calls.run_calls.Goals as goal

pub loop-k-init : goal.loop-k-init
loop-k-init c = let a = c.args in (refl, refl, refl, upto_none a.calls.now _ a.answers.now c.requires)

pub offset_bounds-answers-k : goal.offset_bounds-answers-k
offset_bounds-answers-k c = let t = c.loop-k-test.true in let l = c.loop-k in let u = l.invariant.3 in let room = u.room in let long = u.long in omega (arith, c.well_formed)

pub bounds-answers-k : goal.bounds-answers-k
bounds-answers-k c = let t = c.loop-k-test.true in let l = c.loop-k in let u = l.invariant.3 in let room = u.room in let long = u.long in omega arith

pub loop-k-preserved : goal.loop-k-preserved
loop-k-preserved c = let l = c.loop-k in let f = c.run_call-done in (f.auto.corners ∙ l.invariant.0, f.auto.boxes ∙ l.invariant.1, f.auto.undo ∙ l.invariant.2, upto_more _ _ _ l.k _ l.answers l.invariant.3 c.loop-k-test.true c.from-call.result c.from-call.ensures f.result.answer _ (to_z-of_z {w = w64} (record { sfits = c.from.type_inv }) ∙ c.from.ensures) _ f.ensures)

pub returns : goal.returns
returns c = upto_all _ _ _ c.loop-k.k _ c.loop-k.answers c.loop-k.invariant.3 c.loop-k-test.false
