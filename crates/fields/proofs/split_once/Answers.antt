-- `fields::split_once` meets its contract.
use mathlib.Core.Path.{sym, subst, ◌∙◌}
use native.Mathlib.Omega.{arith}
use Prim.Native.Nat.{◌+◌, ◌-◌}
use lib.ListN.{length, take, drop, length-drop}
use lib.Seq.{take_all}
use Rattle.fields.specs.Pieces.{Parted}
use Rattle.fields.proofs.Pieces.{parted_first, one_piece_only}
use Rattle.fields.proofs.split_once.Goals as goal

pub returns-in_err-at : goal.returns-in_err-at
returns-in_err-at c = rw c.from_residual.ensures (one_piece_only c.args.separator c.args.text.now (sym c.find_first.ensures ∙ c.in_err-at.was))

pub returns : goal.returns
returns c =
    let text = c.args.text.now in
    let at = c.in_ok-at.at in
    let all = take_all (length text - (at + 1)) (drop (at + 1) text) (let l = length-drop (at + 1) text in omega (arith, l)) in
    subst (Parted c.args.separator text (take at text)) (sym all) (parted_first c.args.separator text at (sym c.find_first.ensures ∙ c.in_ok-at.was))
