-- `text::read_plan` meets its contract.
use Rattle.std.proofs.lemmas.Result.{err_from_is_err_and}
use mathlib.Core.Path.{refl, sym, ◌∙◌}
use lib.ListN.{length}
use Rattle.text.proofs.Answers.{given, read_as}
use Rattle.text.proofs.read_plan.Goals as goal

pub write_plan-requires : goal.write_plan-requires
write_plan-requires c = let a = c.args in let g = given a.text.now (length a.corners.now) (length a.lengths.now) (length a.counts.now) c.in_ok-size.size (sym c.in_ok-size.was ∙ c.answer.ensures) in (g.small, g.ready)

pub returns : goal.returns
returns c = let w = c.write_plan.ensures in read_as _ _ _ _ _ _ _ _ (sym c.in_ok-size.was ∙ c.answer.ensures) w.0 w.1 w.2

pub returns-in_err-size : goal.returns-in_err-size
returns-in_err-size c = let p = err_from_is_err_and c.from_residual.result c.from_residual.ensures.1 in rw (p.1, p.2) (read_as _ _ _ _ _ _ _ _ (sym c.in_err-size.was ∙ c.answer.ensures) refl refl refl)
