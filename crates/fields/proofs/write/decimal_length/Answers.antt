-- `fields::write::decimal_length` meets its contract.
use mathlib.Core.Path.{sym, ap, ◌∙◌}
use Prim.Native.Nat.{◌+◌}
use borrow.Author.Rules.{rules}
use native.Mathlib.Omega.{arith}
use lib.ListN.{length}
use Rattle.fields.proofs.Written.{digits_below}
use Rattle.fields.proofs.Signs.{plain_text, below_length}
use Rattle.fields.proofs.write.decimal_length.Goals as goal

pub overflow_add-result : goal.overflow_add-result
overflow_add-result c = let b = c.unsigned_abs-size.ensures.bound in let d = digits_below 19 c.unsigned_abs-size.result (omega (arith, b)) in omega (arith, d, c.digit_count.ensures)

pub returns-then-z-lt0 : goal.returns-then-z-lt0
returns-then-z-lt0 c = ap (λ n. 1 + n) c.digit_count.ensures ∙ sym (below_length c.args.z c.unsigned_abs-size.result (search rules) (search rules))

pub returns : goal.returns
returns c = c.digit_count-2.ensures ∙ sym (ap length (plain_text c.args.z c.unsigned_abs-size.result (search rules) (search rules)))
