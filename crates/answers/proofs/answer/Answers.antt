-- `answers::answer` meets its contract.
use mathlib.Core.Path.{sym}
use native.Mathlib.Omega.{arith}
use lib.Seq.{length-take-le}
use Rattle.answers.proofs.Outcomes.{within_space, short_output, answer_written}
use Rattle.answers.proofs.answer.Goals as goal

pub returns-then-output-count : goal.returns-then-output-count
returns-then-output-count c = let a = c.args in let w = c.answer_whole-count in short_output a.input.now _ _ w.result w.ensures a.output.now c.if-output-count.true

pub slice_bounds-whole-end : goal.slice_bounds-whole-end
slice_bounds-whole-end c = let w = c.answer_whole-count in within_space c.args.input.now _ _ w.result w.ensures w.auto.output

pub slice_bounds-put-end : goal.slice_bounds-put-end
slice_bounds-put-end c = let w = c.answer_whole-count in sym (length-take-le w.result w.new.output (within_space c.args.input.now _ _ w.result w.ensures w.auto.output))

pub put-requires : goal.put-requires
put-requires c = let w = c.answer_whole-count in let l = length-take-le w.result w.new.output (within_space c.args.input.now _ _ w.result w.ensures w.auto.output) in let h = c.if-output-count.false in omega arith

pub returns : goal.returns
returns c = let a = c.args in let w = c.answer_whole-count in answer_written a.input.now _ _ w.result w.ensures a.output.now _ _ c.if-output-count.false c.put.ensures
