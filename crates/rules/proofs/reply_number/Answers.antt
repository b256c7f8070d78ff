-- `rules::reply_number` meets its contract: the numbers are small.
use mathlib.Core.Path.{sym, ap, subst, ◌∙◌}
use lib.IntN.{pos, neg_ℤ}
use Rattle.rules.specs.Numbers.{reply_number}
use Rattle.rules.proofs.SmallNumbers.{Small, location_small, refusal_small, small_fits, small_is, minus_fits, minus_is}
use Rattle.rules.proofs.reply_number.Goals as goal

pub overflow_cast-result : goal.overflow_cast-result
overflow_cast-result c = let small = subst Small (sym c.from.ensures) (location_small c.in-Ok.location) in small_fits c.from.result small

pub overflow_cast-result-in-Err : goal.overflow_cast-result-in-Err
overflow_cast-result-in-Err c = let small = subst Small (sym c.from-in-Err.ensures) (refusal_small c.in-Err.refusal) in small_fits c.from-in-Err.result small

pub overflow_sub-result : goal.overflow_sub-result
overflow_sub-result c = let small = subst Small (sym c.from-in-Err.ensures) (refusal_small c.in-Err.refusal) in minus_fits c.from-in-Err.result small

pub returns-in-Ok : goal.returns-in-Ok
returns-in-Ok c = let small = subst Small (sym c.from.ensures) (location_small c.in-Ok.location) in small_is c.from.result small ∙ ap pos c.from.ensures ∙ ap reply_number (sym c.in-Ok.is)

pub returns-in-Err : goal.returns-in-Err
returns-in-Err c = let small = subst Small (sym c.from-in-Err.ensures) (refusal_small c.in-Err.refusal) in minus_is c.from-in-Err.result small ∙ ap (λ n. neg_ℤ (pos n)) c.from-in-Err.ensures ∙ ap reply_number (sym c.in-Err.is)
