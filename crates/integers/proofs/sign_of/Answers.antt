-- `integers::sign_of` meets its contract: a difference that borrowed is below 0, and its words are no more than two words hold.
use Rattle.std.proofs.Common.{sym, ◌∙◌, arith}
use Rattle.integers.specs.Words.{size_of}
use Rattle.integers.proofs.Words.{both_zero}
use Rattle.integers.proofs.Borrows.{size_small, sign_borrowed, sign_zero, sign_more}
use Rattle.integers.proofs.sign_of.Goals as goal

pub returns-then-d : goal.returns-then-d
returns-then-d c = let d = c.args.d in sym (sign_borrowed d c.if-d.true (size_small d.words (omega arith) (omega arith)))

pub returns-then-d-2 : goal.returns-then-d-2
unfolding size_of
returns-then-d-2 c = let d = c.args.d in sym (sign_zero d c.if-d.false (sym (both_zero d.words.hi d.words.lo) ∙ c.if-d-2.true))

pub returns-else-d-2 : goal.returns-else-d-2
unfolding size_of
returns-else-d-2 c = let d = c.args.d in sym (sign_more d c.if-d.false (sym (both_zero d.words.hi d.words.lo) ∙ c.if-d-2.false))
