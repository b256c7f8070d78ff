-- `grammar::numbers::number` meets its contract.
use borrow.Author.Rules.{rules}
use mathlib.Core.Path.{◌≡◌, ap, ◌∙◌}
use Prim.Native.Nat.{◌+◌, ◌-◌, ◌≤◌, ◌<◌}
use native.Mathlib.Omega.{arith}
use Rattle.std.specs.Prelude.{Some}
use Rattle.grammar.specs.Numbers.{minus_begun, value_begun, plain, first_byte}
use Rattle.grammar.specs.Tokens.{within, NumberRead}
use Rattle.grammar.proofs.Steps.{byte_inside, byte_is, no_byte}
use Rattle.grammar.proofs.Tokens.{number_early, number_off, number_begun, first_digit, first_off, below_digits, above_digits, digit_there}
use Rattle.grammar.proofs.numbers.number.Goals as goal

pub returns-in-Some-eq45 : goal.returns-in-Some-eq45
returns-in-Some-eq45 c = let a = c.args in let m = c.next_byte-start.result in let g = c.next_byte-start.ensures in let e : m.byte ≡ Some 45 = search rules in number_begun a.text.now a.at m.at g.skipped minus_begun c.after_minus.result tt (byte_inside a.text.now a.at m g 45 e) (ap first_byte (byte_is a.text.now a.at m g 45 e)) c.after_minus.ensures

pub returns-in-Some-eq48 : goal.returns-in-Some-eq48
returns-in-Some-eq48 c = let a = c.args in let m = c.next_byte-start.result in let g = c.next_byte-start.ensures in let e : m.byte ≡ Some 48 = search rules in number_begun a.text.now a.at m.at g.skipped (value_begun (plain 0)) c.after_zero.result tt (byte_inside a.text.now a.at m g 48 e) (ap first_byte (byte_is a.text.now a.at m g 48 e)) c.after_zero.ensures

pub returns-in-Some-49-to-57 : goal.returns-in-Some-49-to-57
returns-in-Some-49-to-57 c = let a = c.args in let m = c.next_byte-start.result in let g = c.next_byte-start.ensures in let b = c.in-Some-49-to-57.digit in let e = c.in-Some-49-to-57.is in let low : 49 ≤ b = search rules in let high : b ≤ 57 = search rules in let d = c.in-Some-49-to-57.digit-is in let n : NumberRead a.text.now (m.at + 1) (λ w. within w (value_begun (plain (b - 48)))) (m.at + 1) c.more_digits.result = search rules in number_begun a.text.now a.at m.at g.skipped (value_begun (plain (b - 48))) c.more_digits.result tt (byte_inside a.text.now a.at m g b e) (ap first_byte (byte_is a.text.now a.at m g b e) ∙ first_digit b (λ z. omega (arith, low, z)) (digit_there b (omega (arith, low)) high)) n

pub returns-in_default : goal.returns-in_default
returns-in_default c = let a = c.args in let m = c.next_byte-start.result in let g = c.next_byte-start.ensures in let b = c.in_default.field-0 in let e = c.in_default.is in let low : b < 49 = search rules in let other : b ≡ 45 → ⊥ = search rules in let nought : b ≡ 48 → ⊥ = search rules in number_off a.text.now a.at m.at g.skipped (byte_inside a.text.now a.at m g b e) (ap first_byte (byte_is a.text.now a.at m g b e) ∙ first_off b other (below_digits b (omega (arith, low, nought))))

pub returns-in_default-2 : goal.returns-in_default-2
returns-in_default-2 c = let a = c.args in let m = c.next_byte-start.result in let g = c.next_byte-start.ensures in let b = c.in_default.field-0 in let e = c.in_default.is in let high : 57 < b = search rules in number_off a.text.now a.at m.at g.skipped (byte_inside a.text.now a.at m g b e) (ap first_byte (byte_is a.text.now a.at m g b e) ∙ first_off b (λ z. omega (arith, high, z)) (above_digits b high))

pub returns-in_default-3 : goal.returns-in_default-3
returns-in_default-3 c = let a = c.args in let m = c.next_byte-start.result in let g = c.next_byte-start.ensures in number_early a.text.now a.at m.at g.skipped (no_byte a.text.now a.at m g c.in_default.is)
