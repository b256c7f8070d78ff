-- `grammar::numbers::after_zero` meets its contract.
use borrow.Author.Rules.{rules}
use lib.ListN.{get_or}
use Rattle.grammar.proofs.Tokens.{zero_off, digit_there}
use Rattle.grammar.proofs.numbers.after_zero.Goals as goal

pub returns-in-Some-48-to-57 : goal.returns-in-Some-48-to-57
returns-in-Some-48-to-57 c = let l = c.in-Some-48-to-57.ensures.lookup in zero_off c.args.text.now c.args.at (search rules) (digit_there (get_or c.args.text.now c.args.at 0) (search rules) (search rules))
