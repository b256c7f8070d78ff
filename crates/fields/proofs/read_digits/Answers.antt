-- `fields::read_digits` meets its contract: the bytes before place i are digits, and what they are worth is within the limit.
use borrow.Author.Rules.{rules}
use mathlib.Core.Path.{sym, ap, subst, ◌∙◌}
use Prim.Native.Nat.{◌+◌, ◌-◌}
use lib.ListN.{get_or}
use native.Mathlib.Omega.{arith}
use Rattle.fields.proofs.Numbers.{Read, nothing_read, zero_first, no_digit, too_large_lem, one_more, finished}
use Rattle.fields.proofs.read_digits.Goals as goal

pub returns-in-empty : goal.returns-in-empty
returns-in-empty c = nothing_read c.args.limit c.args.field.now (let h = c.in-empty.len_below in omega (arith, h))

pub returns-in-empty-2 : goal.returns-in-empty-2
returns-in-empty-2 c = zero_first c.args.limit c.args.field.now (let h = c.in-empty.len_at_least in omega (arith, h)) (search rules)

pub returns-then-not-is_ascii_digit : goal.returns-then-not-is_ascii_digit
returns-then-not-is_ascii_digit c =
    let a = c.args in
    let l = c.loop-digit in
    no_digit a.limit a.field.now l.worth l.digit-index l.invariant c.loop-digit-test.true (sym c.if-not-is_ascii_digit.ensures.value)

pub returns-then-limit-worth : goal.returns-then-limit-worth
returns-then-limit-worth c =
    let a = c.args in
    let l = c.loop-digit in
    too_large_lem a.limit a.field.now l.worth l.digit-index l.invariant c.loop-digit-test.true (sym c.if-not-is_ascii_digit.ensures.value) (omega (arith, c.if-limit-worth.true))

pub returns-then-limit-worth-2 : goal.returns-then-limit-worth-2
returns-then-limit-worth-2 c =
    let a = c.args in
    let l = c.loop-digit in
    too_large_lem a.limit a.field.now l.worth l.digit-index l.invariant c.loop-digit-test.true (sym c.if-not-is_ascii_digit.ensures.value) c.if-limit-worth-2.true

pub loop-digit-preserved : goal.loop-digit-preserved
loop-digit-preserved c =
    let a = c.args in
    let l = c.loop-digit in
    one_more a.limit a.field.now l.worth l.digit-index l.invariant c.loop-digit-test.true (sym c.if-not-is_ascii_digit.ensures.value) c.if-limit-worth-2.false

pub returns : goal.returns
returns c =
    let a = c.args in
    let l = c.loop-digit in
    finished a.limit a.field.now l.worth l.digit-index l.invariant c.loop-digit-test.false
