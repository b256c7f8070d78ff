-- `plans::Plan::judge` meets its contract: 4 where `too_many` says so, then 3 where `uneven` does.
use mathlib.Core.Bool.{true}
use mathlib.Core.Path.{◌≡◌, sym, ◌∙◌}
use native.Mathlib.Omega.{arith}
use Rattle.rules.proofs.Verdicts.{too_many_first, uneven_second, accepted_else, judged}
use Rattle.plans.proofs.Plan.judge.Goals as goal

pub returns-then-too_many : goal.returns-then-too_many
returns-then-too_many c = let above : c.too_many.result ≡ true = grind (arith, c.if-too_many.true) in judged _ _ (sym (too_many_first _ (sym c.too_many.ensures ∙ above)))

pub returns-then-uneven : goal.returns-then-uneven
returns-then-uneven c = judged _ _ (sym (uneven_second _ (sym c.too_many.ensures ∙ c.if-too_many.false) (sym c.uneven.ensures ∙ c.if-uneven.true)))

pub returns : goal.returns
returns c = judged _ _ (sym (accepted_else _ (sym c.too_many.ensures ∙ c.if-too_many.false) (sym c.uneven.ensures ∙ c.if-uneven.false)))
