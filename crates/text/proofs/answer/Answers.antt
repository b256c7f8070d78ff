-- `text::answer` meets its contract.
use Rattle.std.proofs.lemmas.Result.{err_from_is_err_and}
use mathlib.Core.Path.{sym, ◌∙◌}
use Rattle.text.proofs.Answers.{too_long, sized, line_broken}
use Rattle.text.proofs.answer.Goals as goal

pub returns-then-text-gt-MAX_TEXT : goal.returns-then-text-gt-MAX_TEXT
returns-then-text-gt-MAX_TEXT c = let a = c.args in too_long a.text.now a.corners a.rings a.polygons c.if-text-gt-MAX_TEXT.true

pub returns : goal.returns
returns c = let a = c.args in c.room.ensures ∙ sized a.text.now a.corners a.rings a.polygons c.if-text-gt-MAX_TEXT.false c.in_ok-size.size (sym c.in_ok-size.was ∙ c.judge.ensures.stage)

pub returns-in_err-size : goal.returns-in_err-size
returns-in_err-size c = let a = c.args in let p = err_from_is_err_and c.from_residual.result c.from_residual.ensures.1 in rw (p.1, p.2) (line_broken a.text.now a.corners a.rings a.polygons c.if-text-gt-MAX_TEXT.false _ (sym c.in_err-size.was ∙ c.judge.ensures.stage))
