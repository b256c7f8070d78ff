-- `fields::write::put_digits` meets its contract: the digits after those of `left` stand in the output.
use mathlib.Core.Path.{◌∙◌}
use native.Mathlib.Omega.{arith}
use lib.ListN.{length-set}
use Rattle.fields.proofs.Written.{digits_some, begun, within, a_place, one_more, finished}
use Rattle.fields.proofs.write.put_digits.Goals as goal

pub overflow_sub-place : goal.overflow_sub-place
overflow_sub-place c = let s = digits_some c.args.n in let e = c.digit_count.ensures in omega arith

pub loop-left-init : goal.loop-left-init
loop-left-init c =
    let a = c.args in
    let e = c.digit_count.ensures in
    let s = digits_some a.n in
    begun a.n a.at a.output.now c.requires _ (omega arith)

pub bounds-output-place : goal.bounds-output-place
bounds-output-place c =
    let a = c.args in
    let p = c.requires in
    let l = c.loop-left in
    let w = within a.n a.at a.output.now p l.output l.left l.place l.invariant in
    let k = l.invariant.kept in
    omega arith

pub overflow_sub-place-in-loop-left : goal.overflow_sub-place-in-loop-left
overflow_sub-place-in-loop-left c =
    let a = c.args in
    let p = c.requires in
    let l = c.loop-left in
    a_place a.n a.at a.output.now p l.output l.left l.place l.invariant c.loop-left-test.true

pub loop-left-preserved : goal.loop-left-preserved
loop-left-preserved c =
    let a = c.args in
    let p = c.requires in
    let l = c.loop-left in
    one_more a.n a.at a.output.now p l.output l.left l.place l.invariant c.loop-left-test.true

pub bounds-output-place-2 : goal.bounds-output-place-2
bounds-output-place-2 c =
    let a = c.args in
    let p = c.requires in
    let l = c.loop-left in
    let w = within a.n a.at a.output.now p l.output l.left l.place l.invariant in
    let k = l.invariant.kept in
    omega arith

pub shape_of-output : goal.shape_of-output
shape_of-output c = let l = c.loop-left in length-set l.output _ _ ∙ l.invariant.kept

pub returns : goal.returns
returns c =
    let a = c.args in
    let p = c.requires in
    let l = c.loop-left in
    let e = c.digit_count.ensures in
    finished a.n a.at a.output.now p l.output l.left l.place l.invariant c.loop-left-test.false _ (omega arith)
