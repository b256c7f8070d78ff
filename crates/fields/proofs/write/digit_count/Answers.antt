-- `fields::write::digit_count` meets its contract.
use mathlib.Core.Path.{sym}
use borrow.Author.Rules.{rules}
use Rattle.fields.proofs.Written.{digits_between, digits_single}
use Rattle.fields.proofs.write.digit_count.Goals as goal

pub returns-in-Some : goal.returns-in-Some
returns-in-Some c = sym (digits_between c.in-Some.tens c.args.n (search rules) (search rules))

pub returns-in-None : goal.returns-in-None
returns-in-None c = sym (digits_single c.args.n (search rules))
