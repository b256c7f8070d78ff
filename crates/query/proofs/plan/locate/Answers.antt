-- `query::plan::locate` meets its contract: the plan's refusal, then the range rule, then the reply ring by ring.
use Rattle.std.proofs.lemmas.Result.{err_from_is_err_and}
use mathlib.Core.Path.{◌≡◌, sym, ◌∙◌, ap, subst}
use mathlib.Core.Bool.{true, false}
use Rattle.rules.specs.declared.Location.TheVariants.{Outside}
use Rattle.rules.specs.Spots.{spot_in_range, spot_reply}
use Rattle.rules.specs.Plans.{plan_verdict, plan_in_range, answer}
use Rattle.outlines.specs.declared.rows.Form.TheVariants.{Lengths}
use Rattle.query.specs.Calls.{SpotShown}
use Rattle.query.proofs.Fits.{accepted_fits, spot_located}
use Rattle.query.proofs.LookUps.{spot_far}
use Rattle.query.proofs.plan.locate.Goals as goal
use Rattle.query.proofs.plan.locate.Goals.{then-not-in_range-via-then-not-in_range, then-not-in_range-via-else-not-in_range+then-not-all_in_range, After-all_in_range, Else-not-in_range, In_ok-judge}
use Rattle.rules.specs.Answering.{Accepted}

pub returns-in_err-judge : goal.returns-in_err-judge
returns-in_err-judge c = let a = c.args in
    let p = err_from_is_err_and c.from_residual.result c.from_residual.ensures.1 in
    rw (p.1, p.2) (sym (ap (λ verdict. answer verdict (spot_reply a.plan.now a.spot)) (sym c.judge.ensures.verdict ∙ c.in_err-judge.was)))

-- the plan is accepted
accepted : (c : In_ok-judge) → plan_verdict c.args.plan.now ≡ Accepted
accepted c = sym c.judge.ensures.verdict ∙ c.in_ok-judge.was

-- whether every corner is in range
told : (c : After-all_in_range) → c.all_in_range.result ≡ plan_in_range c.args.plan.now
unfolding plan_in_range
told c = rw (← c.plan.view_is) c.all_in_range.ensures

-- and the point is
ranged : (c : Else-not-in_range) → spot_in_range c.args.spot ≡ true
ranged c = sym c.in_range.ensures ∙ c.if-not-in_range.false

-- the point is out of range, or a corner is
pub returns-then-not-in_range : goal.returns-then-not-in_range
unfolding plan_in_range
returns-then-not-in_range c = let a = c.args in
    let plan = a.plan.now in
    let out : spot_reply plan a.spot ≡ Outside
    = elim c.then-not-in_range.branch [
      | then-not-in_range-via-then-not-in_range w ↦ spot_far plan a.spot (sym c.in_range.ensures ∙ w.if-not-in_range.true)
      | then-not-in_range-via-else-not-in_range+then-not-all_in_range w ↦ spot_located plan a.spot false true (sym (rw (← c.plan.view_is) w.all_in_range.ensures) ∙ w.if-not-all_in_range.true) (sym c.in_range.ensures ∙ w.if-not-in_range.false)
    ] in
    sym (λ i. answer (accepted (goal.at.returns-then-not-in_range c).In_ok-judge i) (out i))

pub returns : goal.returns
returns c = let a = c.args in
    let near : plan_in_range a.plan.now ≡ true = sym (told (goal.at.returns c).After-all_in_range) ∙ c.if-not-all_in_range.false in
    let in_plan = spot_located a.plan.now a.spot true true near (ranged (goal.at.returns c).Else-not-in_range) in
    let shown = subst (λ plan. SpotShown Lengths plan.kind plan.coordinates plan.lengths plan.counts a.spot c.spot_reply.result) c.plan.view_is c.spot_reply.ensures in
    shown.exact (accepted_fits a.plan.now (accepted (goal.at.returns c).In_ok-judge)) near
    ∙ sym (λ i. answer (accepted (goal.at.returns c).In_ok-judge i) (in_plan i))
