-- `wkt::write::unnamed_writing` meets its contract.
use Rattle.std.proofs.lemmas.Result.{err_from_is_err_and}
use mathlib.Core.Path.{sym, ap, ◌∙◌}
use Rattle.wkt.specs.Writings.{unnamed_writing}
use Rattle.wkt.proofs.write.unnamed_writing.Goals as goal

pub returns : goal.returns
returns c = ap unnamed_writing (sym c.in_ok-judge.was ∙ c.judge.ensures.verdict)

pub returns-in_err-judge : goal.returns-in_err-judge
returns-in_err-judge c = let p = err_from_is_err_and c.from_residual.result c.from_residual.ensures.1 in rw (p.1, p.2) (ap unnamed_writing (sym c.in_err-judge.was ∙ c.judge.ensures.verdict))
