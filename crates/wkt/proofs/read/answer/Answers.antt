-- `wkt::read::answer` meets its contract.
use Rattle.std.proofs.lemmas.Result.{err_from_is_err_and}
use mathlib.Core.Path.{◌∙◌}
use Rattle.wkt.proofs.Readings.{too_long, off, on}
use Rattle.wkt.proofs.read.answer.Goals as goal

pub returns-then-text-gt-MAX_TEXT : goal.returns-then-text-gt-MAX_TEXT
returns-then-text-gt-MAX_TEXT c = too_long c.args.text.now c.args.corners c.args.rings c.args.polygons c.if-text-gt-MAX_TEXT.true

pub returns : goal.returns
returns c = c.with_tables.ensures ∙ on c.args.text.now c.args.corners c.args.rings c.args.polygons c.if-text-gt-MAX_TEXT.false c.in_ok-extent.extent c.in_ok-extent.ensures

pub returns-in_err-extent : goal.returns-in_err-extent
returns-in_err-extent c = let p = err_from_is_err_and c.from_residual.result c.from_residual.ensures.1 in rw (p.1, p.2) (off c.args.text.now c.args.corners c.args.rings c.args.polygons c.if-text-gt-MAX_TEXT.false _ c.in_err-extent.ensures)
