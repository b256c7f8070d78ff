-- `wkt::read::read_wkt` meets its contract.
use Rattle.std.proofs.lemmas.Result.{err_from_is_err_and}
use mathlib.Core.Path.{refl, sym, ◌∙◌}
use lib.ListN.{length}
use Rattle.wkt.proofs.Readings.{read_as, given, stored}
use Rattle.wkt.proofs.read.read_wkt.Goals as goal

pub scan-requires : goal.scan-requires
scan-requires c = (given c.args.text.now (length c.args.corners.now) (length c.args.lengths.now) (length c.args.counts.now) c.in_ok-size.size (sym c.in_ok-size.was ∙ c.answer.ensures)).small

pub returns : goal.returns
returns c = let a = c.args in let s = c.scan in stored a.text.now a.corners.now s.new.corners a.lengths.now s.new.lengths a.counts.now s.new.counts c.in_ok-size.size (sym c.in_ok-size.was ∙ c.answer.ensures) s.result s.ensures

pub returns-in_err-size : goal.returns-in_err-size
returns-in_err-size c = let a = c.args in let p = err_from_is_err_and c.from_residual.result c.from_residual.ensures.1 in rw (p.1, p.2) (read_as a.text.now a.corners.now a.corners.now a.lengths.now a.lengths.now a.counts.now a.counts.now _ (sym c.in_err-size.was ∙ c.answer.ensures) refl refl refl)
