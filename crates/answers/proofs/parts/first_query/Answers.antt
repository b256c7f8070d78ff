-- `answers::parts::first_query` meets its contract.
use Rattle.std.proofs.Common.{rules, ◌+◌, sym, ap, subst, ◌∙◌}
use Rattle.fields.specs.Pieces.{split}
use Rattle.asked.specs.Queries.{asks}
use Rattle.answers.specs.Answers.{FirstQuery}
use Rattle.answers.proofs.Searching.{passing_begun, asked_here, passing_onward, none_asked}
use Rattle.answers.proofs.parts.first_query.Goals as goal

pub loop-k-init : goal.loop-k-init
loop-k-init c = (search rules, search rules, passing_begun c.args.input.now _ _ (search rules) (search rules))

pub returns-then-asks : goal.returns-then-asks
returns-then-asks c =
    let s = c.in-Some.ensures.steps in
    subst (λ k. FirstQuery c.args.input.now (record { from = c.loop-k.from; line = k + 1 })) (sym s.1)
    (asked_here c.args.input.now c.loop-k.from _ _ c.loop-k.invariant.2 c.in-Some.line _ s.0 (ap (λ row. asks (split 9 row)) (sym c.bytes.ensures) ∙ sym c.asks.ensures ∙ c.if-asks.true))

pub loop-k-preserved : goal.loop-k-preserved
loop-k-preserved c =
    let s = c.in-Some.ensures.steps in
    (search rules, search rules, passing_onward c.args.input.now c.loop-k.from _ _ c.loop-k.invariant.2 c.in-Some.line _ s.0 c.size-from.result _ (ap (λ row. asks (split 9 row)) (sym c.bytes.ensures) ∙ sym c.asks.ensures ∙ c.if-asks.false) c.size-from.ensures (ap (λ k. k + 1) s.2))

pub returns : goal.returns
returns c = none_asked c.args.input.now c.loop-k.from _ _ c.loop-k.invariant.2 c.in-None.ensures.steps.0.0
