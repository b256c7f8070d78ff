-- What the call returns and leaves in the output. Assumes nothing.
use mathlib.Core.Path.{◌≡◌, refl, sym, ap, subst, ◌∙◌}
use mathlib.Core.Bool.{Bool, true, false, cond}
use mathlib.Core.List.{List}
use Prim.Native.Nat.{ℕ, ◌+◌, ◌≤◌, ◌<◌}
use native.Mathlib.Omega.{arith}
use lib.ListN.{length, take, drop}
use lib.Seq.{take_at}
use lib.Dec.{ltb}
use borrow.Author.Tests.{lt-ltb, le-ltb, ltb-false}
use Rattle.fields.specs.Pieces.{split}
use Rattle.fields.specs.Written.{overwritten, Wrote}
use Rattle.lines.specs.Plans.{meaning}
use Rattle.std.specs.Prelude.{Ok}
use Rattle.answers.specs.Replies.{refusal_line}
use Rattle.answers.specs.Answers.{plan_text, judged, answered, too_short, Answered}
use Rattle.answers.proofs.Bounds.{answered_few}

pub long_input : (input : List ℕ) → 16384 < length input → answered input ≡ refusal_line 1 0
unfolding answered
long_input input h = ap (λ b. cond b (refusal_line 1 0) (judged (meaning (plan_text (split 10 input))) (split 10 input))) (lt-ltb 16384 (length input) h)

pub small_input : (input : List ℕ) → length input ≤ 16384 → answered input ≡ judged (meaning (plan_text (split 10 input))) (split 10 input)
unfolding answered
small_input input h = ap (λ b. cond b (refusal_line 1 0) (judged (meaning (plan_text (split 10 input))) (split 10 input))) (le-ltb 16384 (length input) h)

-- what was written is the whole answer
pub whole_is : (input bytes output output' : List ℕ) (n : ℕ) → answered input ≡ bytes → Wrote 0 bytes output output' n → Wrote 0 (answered input) output output' n
whole_is input bytes output output' n e w = subst (λ xs. Wrote 0 xs output output' n) (sym e) w

-- the whole answer stands in a space of its own, and n bytes of it go to the output where it has room for them
module _ (input space space' : List ℕ) (n : ℕ) (w : Wrote 0 (answered input) space space' n) where
  count : n ≡ length (answered input)
  count = let a = w.next in omega arith

  -- it lies in that space
  pub within_space : length space' ≡ 65536 → n ≤ length space'
  within_space e = let few = answered_few input in let c = count in omega arith

module _ (input space space' : List ℕ) (n : ℕ) (w : Wrote 0 (answered input) space space' n) (output : List ℕ) where
  -- which test decides
  by_room : (few : Bool) → ltb (length output) n ≡ few → ltb (length output) (length (answered input)) ≡ few
  by_room few e = ap (ltb (length output)) (sym (count input space space' n w)) ∙ e

  pub short_output : length output < n → Answered input output output too_short
  short_output h =
      let few = by_room true (lt-ltb (length output) n h) in
      record {
        answer = sym (ap (λ b. cond b too_short (Ok (length (answered input)))) few);
        number = sym (ap (λ b. cond b 11 0) few);
        written = refl;
        few = answered_few input;
      }

  pub answer_written : (output' : List ℕ) (m : ℕ) → n ≤ length output → Wrote 0 (take n space') output output' m → Answered input output output' (Ok n)
  answer_written output' m h v =
      let enough = by_room false (le-ltb (length output) n h) in
      let same : take n space' ≡ answered input = ap (take n) w.whole ∙ take_at (answered input) (drop (0 + length (answered input)) space) n (sym (count input space space' n w)) in
      record {
        answer = ap Ok (count input space space' n w) ∙ sym (ap (λ b. cond b too_short (Ok (length (answered input)))) enough);
        number = sym (ap (λ b. cond b 11 0) enough);
        written = v.whole ∙ ap (λ xs. overwritten 0 xs output) same;
        few = answered_few input;
      }

-- what was written lies in the output
pub written_within : (input output output' : List ℕ) (n : ℕ) → Answered input output output' (Ok n) → n ≤ length output
written_within input output output' n g = go (ltb (length output) (length (answered input))) refl g.answer
  where
    go : (b : Bool) → ltb (length output) (length (answered input)) ≡ b → Ok n ≡ cond b too_short (Ok (length (answered input))) → n ≤ length output
    go true e h = let one : ◌≡◌ {A = ℕ} 0 1 = cc in absurd (omega arith)
    go false e h = let same : n ≡ length (answered input) = cc in let long = ltb-false (length output) (length (answered input)) e in omega arith
