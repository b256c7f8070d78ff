-- `capi::locate_in` meets its contract: the tables start with the text's plan, which is accepted.
use Rattle.std.proofs.lemmas.Result.{err_from_is_err_and}
use mathlib.Core.Path.{sym, ap, ◌∙◌}
use native.Mathlib.Omega.{arith}
use lib.ListN.{length}
use Rattle.rules.specs.Plans.{plan_verdict, plan_reply, answer}
use Rattle.text.proofs.Answers.{Given, given}
use Rattle.text.proofs.Held.{counts_fit, plan_held_lem}
use Rattle.capi.proofs.Readings.{refused_reply, reply_is}
use Rattle.capi.proofs.locate_in.Goals as goal
use Rattle.capi.proofs.locate_in.Goals.{In_ok-size}

-- the plan that was read
was_given : (c : In_ok-size) → let a = c.args in Given a.text.now (length a.corners.now) (length a.lengths.now) (length a.counts.now) c.in_ok-size.size
was_given c =
    let a = c.args in
    given a.text.now (length a.corners.now) (length a.lengths.now) (length a.counts.now) c.in_ok-size.size (sym c.in_ok-size.was ∙ c.read_plan.ensures.answer)

pub first_plan-plan-requires : goal.first_plan-plan-requires
first_plan-plan-requires c = let w = counts_fit _ _ _ _ _ (was_given (goal.at.first_plan-plan-requires c).In_ok-size) in let k = c.read_plan.auto in (omega arith, omega arith, omega arith)

pub returns : goal.returns
returns c =
    let a = c.args in
    let r = c.read_plan in
    let g = was_given (goal.at.returns c).In_ok-size in
    c.locate.ensures
    ∙ ap (λ plan. answer (plan_verdict plan) (plan_reply plan a.p)) (c.first_plan-plan.ensures ∙ plan_held_lem a.text.now (length a.corners.now) (length a.lengths.now) (length a.counts.now) c.in_ok-size.size g a.corners.now r.new.corners a.lengths.now r.new.lengths a.counts.now r.new.counts (rw c.in_ok-size.was at r.ensures.corners_written) (rw c.in_ok-size.was at r.ensures.lengths_written) (rw c.in_ok-size.was at r.ensures.counts_written))
    ∙ reply_is a.text.now (length a.corners.now) (length a.lengths.now) (length a.counts.now) c.in_ok-size.size g a.p

pub returns-in_err-size : goal.returns-in_err-size
returns-in_err-size c =
    let a = c.args in
    let p = c.requires in
    let r = err_from_is_err_and c.from_residual.result c.from_residual.ensures.1 in
    rw (r.1, r.2) (refused_reply a.text.now (length a.corners.now) (length a.lengths.now) (length a.counts.now) a.p _ p.0 p.1 p.2 (sym c.in_err-size.was ∙ c.read_plan.ensures.answer))
