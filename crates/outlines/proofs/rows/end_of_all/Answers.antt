-- `outlines::rows::end_of_all` meets its contract. The invariant: the parts from k on end where all of them do, and fit if all of them do.
use Rattle.std.proofs.lemmas.Result.{err_from_is_err_and}
use mathlib.Core.Path.{refl, sym, ◌∙◌, ap, subst}
use Prim.Native.Nat.{◌+◌}
use native.Mathlib.Omega.{arith}
use lib.ListN.{drop}
use Rattle.outlines.specs.Rows.{end_by, Within}
use Rattle.outlines.proofs.Cuts.{within_step, misfit, end_step, done}
use Rattle.outlines.proofs.rows.end_of_all.Goals as goal

pub loop-entry-init : goal.loop-entry-init
loop-entry-init c = (omega arith, omega arith, refl, λ w. w)

pub returns-in_err-at : goal.returns-in_err-at
returns-in_err-at c =
    let a = c.args in
    let l = c.loop-entry in
    let p = err_from_is_err_and c.from_residual.result c.from_residual.ensures.1 in rw p.1 (λ w. misfit a.form a.limit l.at a.table.now l.entry-index (omega arith) (l.invariant.3 w) c.in_err-at.ensures)

pub loop-entry-preserved : goal.loop-entry-preserved
loop-entry-preserved c =
    let a = c.args in
    let l = c.loop-entry in
    let says = c.in_ok-at.ensures in (
      omega arith,
      says.2,
      ap (λ n. end_by a.form n (drop (l.entry-index + 1) a.table.now)) says.0 ∙ sym (end_step a.form l.at a.table.now l.entry-index (omega arith)) ∙ l.invariant.2,
      λ w. subst (λ n. Within a.form a.limit n (drop (l.entry-index + 1) a.table.now)) (sym says.0) (within_step a.form a.limit l.at a.table.now l.entry-index (omega arith) (l.invariant.3 w)).rest,
    )

pub returns : goal.returns
returns c =
    let a = c.args in
    let l = c.loop-entry in
    (done a.form a.table.now l.entry-index l.at (omega arith) ∙ l.invariant.2, l.invariant.1)
