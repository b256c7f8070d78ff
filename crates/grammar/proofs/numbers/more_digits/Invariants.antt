-- `grammar::numbers::more_digits` meets its contract.
use Rattle.grammar.specs.Numbers.{value_begun, whole_of}
use Rattle.grammar.proofs.Tokens.{More}
use Rattle.grammar.proofs.numbers.more_digits.Given as goal

abbrev pub invariant-loop-place : goal.invariant-loop-place
invariant-loop-place l = More l.text l.at (value_begun (whole_of l.begun)) l.number l.place
