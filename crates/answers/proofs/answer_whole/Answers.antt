-- `answers::answer_whole` meets its contract.
use native.Mathlib.Omega.{arith}
use Rattle.answers.proofs.Bounds.{refusal_short}
use Rattle.answers.proofs.Outcomes.{long_input, small_input, whole_is}
use Rattle.answers.proofs.answer_whole.Goals as goal

pub put_refusal-requires : goal.put_refusal-requires
put_refusal-requires c = let l = refusal_short 1 0 (omega arith) (omega arith) in omega arith

pub returns-then-input-gt-MAX_INPUT : goal.returns-then-input-gt-MAX_INPUT
returns-then-input-gt-MAX_INPUT c = let a = c.args in whole_is a.input.now _ _ _ _ (long_input a.input.now c.if-input-gt-MAX_INPUT.true) c.put_refusal.ensures

pub returns : goal.returns
returns c = let a = c.args in whole_is a.input.now _ _ _ _ (small_input a.input.now c.if-input-gt-MAX_INPUT.false) c.answer_in.ensures
