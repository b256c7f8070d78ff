-- `replay::replay` meets its contract.
use Rattle.std.proofs.lemmas.Result.{err_from_is_err_and}
use mathlib.Core.Path.{◌≡◌, sym, ◌∙◌}
use Rattle.rules.specs.Plans.{plan_verdict}
use Rattle.replay.proofs.Ending.{replay_judged, replay_short, replay_refused, replay_ran}
use Rattle.replay.proofs.replay.Goals as goal
use Rattle.replay.proofs.replay.Goals.{In_ok-judge}
use Rattle.rules.specs.Answering.{Accepted}

-- the plan was accepted
accepted : (c : In_ok-judge) → plan_verdict c.args.plan.now ≡ Accepted
accepted c = sym c.judge.ensures.verdict ∙ c.in_ok-judge.was

pub returns-in_err-judge : goal.returns-in_err-judge
returns-in_err-judge c = let p = err_from_is_err_and c.from_residual.result c.from_residual.ensures.1 in rw (p.1, p.2) (replay_judged _ _ _ _ (sym c.judge.ensures.verdict ∙ c.in_err-judge.was))

pub returns-then-answers-calls : goal.returns-then-answers-calls
returns-then-answers-calls c = replay_short _ _ _ (accepted (goal.at.returns-then-answers-calls c).In_ok-judge) c.if-answers-calls.true

pub returns-in_err-ready : goal.returns-in_err-ready
returns-in_err-ready c = let p = err_from_is_err_and c.from_residual-in_err-ready.result c.from_residual-in_err-ready.ensures.1 in rw (p.1, p.2) (replay_refused _ _ _ (accepted (goal.at.returns-in_err-ready c).In_ok-judge) c.if-answers-calls.false _ _ c.in_err-ready.ensures)

pub shape_of-corners : goal.shape_of-corners
shape_of-corners c = c.run_calls.auto.corners ∙ c.prepare.auto.corners

pub returns : goal.returns
returns c =
    let f = c.run_calls in
    replay_ran _ _ _ (accepted (goal.at.returns c).In_ok-judge) c.if-answers-calls.false _ c.in_ok-ready.ready.state c.in_ok-ready.ready.nodes c.in_ok-ready.ensures _ f.result f.ensures
