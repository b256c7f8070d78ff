-- `fields::write::put_decimal` meets its contract.
use mathlib.Core.Path.{ap}
use borrow.Author.Rules.{rules}
use native.Mathlib.Omega.{arith}
use lib.ListN.{length}
use Rattle.fields.proofs.Signs.{plain_text, below_length, minus_wrote, plain_wrote}
use Rattle.fields.proofs.write.put_decimal.Goals as goal

pub put-after-requires : goal.put-after-requires
put-after-requires c = let l = below_length c.args.z c.unsigned_abs-size.result (search rules) (search rules) in let h = c.requires in omega (arith, l, h)

pub put_digits-requires : goal.put_digits-requires
put_digits-requires c = let l = below_length c.args.z c.unsigned_abs-size.result (search rules) (search rules) in let h = c.requires in let n = c.put-after.ensures.next in let k = c.put-after.auto.output in omega (arith, l, h, n, k)

pub returns-then-z-lt0 : goal.returns-then-z-lt0
returns-then-z-lt0 c = minus_wrote c.args.at c.args.z c.unsigned_abs-size.result c.args.output.now _ _ _ _ (search rules) (search rules) c.requires c.put-after.ensures c.put_digits.ensures

pub put_digits-requires-2 : goal.put_digits-requires-2
put_digits-requires-2 c = let l = ap length (plain_text c.args.z c.unsigned_abs-size.result (search rules) (search rules)) in let h = c.requires in omega (arith, l, h)

pub returns : goal.returns
returns c = plain_wrote c.args.at c.args.z c.unsigned_abs-size.result c.args.output.now _ _ (search rules) (search rules) c.put_digits-2.ensures
