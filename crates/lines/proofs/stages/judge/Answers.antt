-- `lines::stages::judge` meets its contract: the size is that of the lines so far.
use Rattle.std.proofs.Common.{rules, ◌+◌, ap, ◌∙◌}
use Rattle.std.proofs.lemmas.Result.{err_from_is_err_and}
use Rattle.lines.specs.Steps.{stage_after}
use Rattle.lines.proofs.Judging.{said_is, judging_begun, judging_onward, judged_broken, judged_whole}
use Rattle.lines.proofs.stages.judge.Goals as goal
use Rattle.lines.proofs.stages.judge.Goals.{After-after_line}

pub loop-k-init : goal.loop-k-init
loop-k-init c = (search rules, search rules, judging_begun c.args.text.now _ _ (search rules) (search rules))

pub returns-in_err-after_line : goal.returns-in_err-after_line
returns-in_err-after_line c =
    let l = c.loop-k in
    let p = err_from_is_err_and c.from_residual.result c.from_residual.ensures.1 in
    rw (p.1, p.2)
    (judged_broken c.args.text.now l.so_far _ _ l.invariant.2 c.and_then-said.result c.after_line.result (c.after_line.ensures ∙ ap (λ k. stage_after (k + 1) l.so_far c.and_then-said.result) c.in-Some.ensures.steps.1) _ (c.in-Some.line, c.in-Some.ensures.steps.0, said_is c.in-Some.line c.ended.result c.and_then-said.result c.ended.ensures c.and_then-said.ensures) _ c.in_err-after_line.was)

pub loop-k-preserved : goal.loop-k-preserved
loop-k-preserved c =
    let l = c.loop-k in
    (search rules, search rules, judging_onward c.args.text.now l.so_far _ _ l.invariant.2 c.and_then-said.result c.after_line.result (c.after_line.ensures ∙ ap (λ k. stage_after (k + 1) l.so_far c.and_then-said.result) c.in-Some.ensures.steps.1) _ (c.in-Some.line, c.in-Some.ensures.steps.0, said_is c.in-Some.line c.ended.result c.and_then-said.result c.ended.ensures c.and_then-said.ensures) _ _ c.in_ok-after_line.was (ap (λ k. k + 1) c.in-Some.ensures.steps.2))

pub returns : goal.returns
returns c = rw c.ok_or.ensures.value (judged_whole c.args.text.now c.loop-k.so_far _ _ c.loop-k.invariant.2 (search rules))
