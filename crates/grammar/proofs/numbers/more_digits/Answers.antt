-- `grammar::numbers::more_digits` meets its contract.
use borrow.Author.Rules.{rules}
use mathlib.Core.Path.{◌≡◌, sym, subst, ◌∙◌}
use Prim.Native.Nat.{◌+◌}
use mir.Syntax.{w64}
use mir.Val.{to_z, of_z}
use Rattle.std.specs.Prelude.{Some, None, Err}
use Rattle.grammar.specs.Numbers.{value_begun, whole_of}
use Rattle.grammar.specs.Tokens.{within, NumberRead}
use Rattle.grammar.proofs.Tokens.{More, grown_on, grown_off}
use Rattle.grammar.proofs.numbers.more_digits.Goals as goal
use Rattle.grammar.proofs.numbers.more_digits.Goals.{After-with_digit}

-- the digits so far
so_far : (c : After-with_digit) → More c.args.text.now c.args.at (value_begun (whole_of c.args.begun)) (to_z w64 c.loop-place.number-bits) c.loop-place.place
so_far c =
    let begun : to_z w64 (of_z w64 c.args.begun) ≡ c.args.begun = search rules in
    subst (λ z. More c.args.text.now c.args.at (value_begun (whole_of z)) (to_z w64 c.loop-place.number-bits) c.loop-place.place) begun c.loop-place.invariant

pub returns-in_err-number : goal.returns-in_err-number
returns-in_err-number c =
    let a = c.args in
    let l = c.loop-place in
    let none : None ≡ c.with_digit.result = search rules in
    let e : c.from_residual.result ≡ Err (record { place = l.place }) = search rules in
    subst (NumberRead a.text.now a.at (λ w. within w (value_begun (whole_of a.begun))) a.at) (sym e)
    (grown_off a.text.now a.at _ (to_z w64 l.number-bits) l.place (so_far (goal.at.returns-in_err-number c).After-with_digit) c.loop-place-test.true (sym c.if-not-is_ascii_digit.ensures.value) (none ∙ c.with_digit.ensures))

pub loop-place-preserved : goal.loop-place-preserved
loop-place-preserved c =
    let a = c.args in
    let l = c.loop-place in
    let some : Some c.in_ok-number.number ≡ c.with_digit.result = search rules in
    let begun : to_z w64 (of_z w64 a.begun) ≡ a.begun = search rules in
    let number : to_z w64 (of_z w64 c.in_ok-number.number) ≡ c.in_ok-number.number = search rules in
    subst (λ z. More a.text.now a.at (value_begun (whole_of z)) (to_z w64 (of_z w64 c.in_ok-number.number)) (l.place + 1)) (sym begun)
    (subst (λ z. More a.text.now a.at (value_begun (whole_of a.begun)) z (l.place + 1)) (sym number)
    (grown_on a.text.now a.at _ (to_z w64 l.number-bits) l.place (so_far (goal.at.loop-place-preserved c).After-with_digit) c.loop-place-test.true (sym c.if-not-is_ascii_digit.ensures.value) c.in_ok-number.number (some ∙ c.with_digit.ensures)))
