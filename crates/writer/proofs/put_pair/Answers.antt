-- `writer::put_pair` meets its contract.
use mathlib.Core.Path.{◌≡◌, ap, subst}
use native.Mathlib.Omega.{arith}
use mir.Syntax.{w64}
use mir.Val.{to_z, of_z}
use lib.ListN.{length}
use Rattle.fields.specs.Decimals.{decimal}
use Rattle.fields.specs.Written.{Wrote}
use Rattle.writer.proofs.Pairs.{pair_length, pair_wrote}
use borrow.Author.Rules.{rules}
use Rattle.writer.proofs.put_pair.Goals as goal

pub put_decimal-space-requires : goal.put_decimal-space-requires
put_decimal-space-requires c =
    let a = c.args in
    let ex : to_z w64 (of_z w64 a.p.x) ≡ a.p.x = search rules in
    omega (arith, pair_length a.p.x a.p.y, c.requires, ap (λ z. length (decimal z)) ex)

pub put-next-requires : goal.put-next-requires
put-next-requires c =
    let a = c.args in
    let ex : to_z w64 (of_z w64 a.p.x) ≡ a.p.x = search rules in
    omega (arith, pair_length a.p.x a.p.y, c.requires, ap (λ z. length (decimal z)) ex, c.put_decimal-space.ensures.next, c.put_decimal-space.auto.output)

pub put_decimal-requires : goal.put_decimal-requires
put_decimal-requires c =
    let a = c.args in
    let ex : to_z w64 (of_z w64 a.p.x) ≡ a.p.x = search rules in
    let ey : to_z w64 (of_z w64 a.p.y) ≡ a.p.y = search rules in
    omega (arith, pair_length a.p.x a.p.y, c.requires, ap (λ z. length (decimal z)) ex, ap (λ z. length (decimal z)) ey, c.put_decimal-space.ensures.next, c.put_decimal-space.auto.output, c.put-next.ensures.next, c.put-next.auto.output)

pub returns : goal.returns
returns c =
    let a = c.args in
    let ex : to_z w64 (of_z w64 a.p.x) ≡ a.p.x = search rules in
    let ey : to_z w64 (of_z w64 a.p.y) ≡ a.p.y = search rules in
    let one = c.put_decimal-space in
    let two = c.put-next in
    let three = c.put_decimal in
    pair_wrote a.at a.p.x a.p.y a.output.now _ _ _ _ _ _ c.requires
    (subst (λ z. Wrote a.at (decimal z) a.output.now one.new.output one.result) ex one.ensures)
    two.ensures
    (subst (λ z. Wrote two.result (decimal z) two.new.output three.new.output three.result) ey three.ensures)
