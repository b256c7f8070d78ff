-- `fields::read_digits` meets its contract: the bytes before place i are digits, and what they are worth is within the limit.
use Rattle.fields.proofs.Numbers.{Read}
use Rattle.fields.proofs.read_digits.Given as goal

abbrev pub invariant-loop-digit : goal.invariant-loop-digit
invariant-loop-digit l = Read l.limit l.field l.worth l.digit-index
