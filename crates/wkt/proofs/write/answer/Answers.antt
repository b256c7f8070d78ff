-- `wkt::write::answer` meets its contract.
use Rattle.std.proofs.lemmas.Result.{err_from_is_err_and}
use mathlib.Core.Path.{sym, ◌∙◌}
use Rattle.wkt.proofs.Writings.{accepted_as, refused_as}
use Rattle.wkt.proofs.write.answer.Goals as goal

pub drawn_answer-requires : goal.drawn_answer-requires
drawn_answer-requires c = sym c.judge.ensures.verdict ∙ c.in_ok-judge.was

pub returns : goal.returns
returns c = accepted_as _ c.args.room _ (sym c.judge.ensures.verdict ∙ c.in_ok-judge.was) c.drawn_answer.ensures

pub returns-in_err-judge : goal.returns-in_err-judge
returns-in_err-judge c = let p = err_from_is_err_and c.from_residual.result c.from_residual.ensures.1 in rw (p.1, p.2) (refused_as _ c.args.room _ (sym c.judge.ensures.verdict ∙ c.in_err-judge.was))
