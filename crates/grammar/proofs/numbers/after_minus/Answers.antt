-- `grammar::numbers::after_minus` meets its contract.
use borrow.Author.Rules.{rules}
use Prim.Native.Nat.{◌-◌}
use lib.ListN.{get_or}
use Rattle.grammar.proofs.Tokens.{minus_early, minus_below, minus_other, minus_digit, above_digits, digit_there}
use Rattle.grammar.proofs.numbers.after_minus.Goals as goal

pub returns-in-Some-49-to-57 : goal.returns-in-Some-49-to-57
returns-in-Some-49-to-57 c = let a = c.args in minus_digit a.text.now a.at c.more_digits.result (get_or a.text.now a.at 0 - 49) (search rules) (digit_there (get_or c.args.text.now c.args.at 0) (search rules) (search rules)) (search rules) (search rules)

pub returns-in_default : goal.returns-in_default
returns-in_default c = let a = c.args in let l = c.get.ensures.lookup in minus_below a.text.now a.at (search rules) (search rules)

pub returns-in_default-2 : goal.returns-in_default-2
returns-in_default-2 c = let a = c.args in minus_other a.text.now a.at (search rules) (above_digits (get_or c.args.text.now c.args.at 0) (search rules))

pub returns-in_default-3 : goal.returns-in_default-3
returns-in_default-3 c = let a = c.args in minus_early a.text.now a.at (search rules)
