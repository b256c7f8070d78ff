-- `wkt::write::write_wkt` meets its contract.
use Rattle.std.proofs.lemmas.Result.{err_from_is_err_and}
use Rattle.wkt.specs.Writings.{Answered, writing}
use Rattle.wkt.proofs.Writings.{answered_drawn, answered_room, text_written, written_as}
use mathlib.Core.Path.{refl, subst}
use lib.ListN.{length}
use Rattle.wkt.proofs.write.write_wkt.Goals as goal

pub put_text-requires : goal.put_text-requires
put_text-requires c =
    let a = c.args in
    let done = subst (Answered a.plan.now.coordinates (writing a.plan.now (length a.output.now))) c.in_ok-length.was c.answer.ensures in (
      answered_drawn a.plan.now a.output.now _ done,
      answered_room a.plan.now a.output.now _ done,
    )

pub returns : goal.returns
returns c =
    let a = c.args in
    let done = subst (Answered a.plan.now.coordinates (writing a.plan.now (length a.output.now))) c.in_ok-length.was c.answer.ensures in
    text_written a.plan.now a.output.now _ done _ _ c.put_text.ensures

pub returns-in_err-length : goal.returns-in_err-length
returns-in_err-length c = let a = c.args in
    let p = err_from_is_err_and c.from_residual.result c.from_residual.ensures.1 in rw (p.1, p.2) (written_as a.plan.now a.output.now _ _ (subst (Answered a.plan.now.coordinates (writing a.plan.now (length a.output.now))) c.in_err-length.was c.answer.ensures) refl)
