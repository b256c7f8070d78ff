-- `writer::lengths::decimals` meets its contract.
use mathlib.Core.Path.{◌≡◌, ap, ◌∙◌}
use native.Mathlib.Omega.{arith}
use mir.Syntax.{w64}
use mir.Val.{to_z, of_z, SFits}
use lib.IntN.{pos}
use lib.ListN.{length, get_or}
use Rattle.fields.specs.Decimals.{decimal}
use Rattle.writer.proofs.Numbers.{counting, number_short, counting_on, counted}
use borrow.Author.Rules.{rules}
use Rattle.writer.proofs.lengths.decimals.Goals as goal

pub loop-z-init : goal.loop-z-init
loop-z-init c = counting c.args.numbers.now

pub overflow_add-sum : goal.overflow_add-sum
overflow_add-sum c =
    let xs = c.args.numbers.now in
    let l = c.loop-z in
    let f : SFits w64 (get_or xs l.z-index (pos 0)) = search rules in
    let e : to_z w64 (of_z w64 (get_or xs l.z-index (pos 0))) ≡ get_or xs l.z-index (pos 0) = search rules in
    omega (arith, number_short xs l.sum l.z-index l.invariant c.loop-z-test.true f _ (c.decimal_length-sum.ensures ∙ ap (λ z. length (decimal z)) e), l.invariant.small, l.invariant.few, c.requires)

pub loop-z-preserved : goal.loop-z-preserved
loop-z-preserved c =
    let xs = c.args.numbers.now in
    let l = c.loop-z in
    let f : SFits w64 (get_or xs l.z-index (pos 0)) = search rules in
    let e : to_z w64 (of_z w64 (get_or xs l.z-index (pos 0))) ≡ get_or xs l.z-index (pos 0) = search rules in
    counting_on xs l.sum l.z-index l.invariant c.loop-z-test.true f _ (c.decimal_length-sum.ensures ∙ ap (λ z. length (decimal z)) e)

pub returns : goal.returns
returns c = counted c.args.numbers.now c.loop-z.sum c.loop-z.z-index c.loop-z.invariant c.loop-z-test.false
