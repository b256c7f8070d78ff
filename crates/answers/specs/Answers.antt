-- The whole output for a whole input (document 01, "Trays to try"; `findspot`: 16,384 bytes of input, 512 corners, 256 rings).
use Rattle.std.specs.Prelude.{◌≡◌, Bool, false, cond, ◌||◌, List, [], ◌∷◌, ◌++◌, ℕ, suc, ◌+◌, ◌≤◌, ltb, ℤ, length, take, drop, Result, Ok, Err}
use Rattle.fields.specs.Pieces.{split}
use Rattle.fields.specs.Written.{overwritten}
use Rattle.rules.specs.Plans.{Plan, corner_count, plan_verdict}
use Rattle.lines.specs.Plans.{Meaning, start_meaning, gives_meaning, broken_meaning, meaning}
use Rattle.answers.specs.declared.OutputTooShort.{OutputTooShort}
use Rattle.answers.specs.declared.parts.Place.{Place}
use Rattle.asked.specs.Queries.{asks}
use Rattle.answers.specs.Replies.{refusal_line, replies}
use Rattle.answers.specs.Words.{line_end}
use Rattle.rules.specs.Answering.{Accepted}

-- ---- the plan's lines and the others

-- the plan's text: what stands before the first line that asks, or all where none does
unfoldable pub plan_text : List (List ℕ) → List ℕ
plan_text [] = []
plan_text (last ∷ []) = cond (asks (split 9 last)) [] last
plan_text (line ∷ next ∷ lines) = cond (asks (split 9 line)) [] (line ++ line_end ++ plan_text (next ∷ lines))

-- what is written for the lines from line k on, where those before the first that asks are the plan's; nothing where none does
unfoldable pub after_plan : Plan → ℕ → List (List ℕ) → List ℕ
after_plan plan k [] = []
after_plan plan k (line ∷ lines) = cond (asks (split 9 line)) (replies plan k (line ∷ lines)) (after_plan plan (suc k) lines)

-- what the search for the first line that asks finds: the plan's text stands before it, and the replies are due from there on
pub record FirstQuery (input : List ℕ) (r : Place) : Type 0 where
  pub within : r.from ≤ length input
  pub numbered : r.line ≤ r.from + 1
  pub plan_part : plan_text (split 10 input) ≡ take r.from input
  pub rest_due : (plan : Plan) → after_plan plan 1 (split 10 input) ≡ replies plan r.line (split 10 (drop r.from input))

-- ---- the plan is judged first

-- more corners or rings than `findspot` takes; polygons share the rings' ceiling
abbrev pub too_large : Plan → Bool
too_large plan = ltb 512 (corner_count plan) || (ltb 256 (length plan.lengths) || ltb 256 (length plan.counts))

-- a plan that is replied from: neither 4 nor 3 refuses it, and it is within the ceilings
pub record Admitted (plan : Plan) : Type 0 where
  pub accepted : plan_verdict plan ≡ Accepted
  pub few : too_large plan ≡ false

-- 2 with the first line that breaks item 10, then 11, then the replies; no text comes to `Start`
abbrev pub judged : Meaning → List (List ℕ) → List ℕ
judged start_meaning lines = refusal_line 2 1
judged (gives_meaning plan) lines = cond (too_large plan) (refusal_line 11 0) (after_plan plan 1 lines)
judged (broken_meaning line) lines = refusal_line 2 line

-- 1 comes before all; lines are counted from the input's first
unfoldable pub answered : List ℕ → List ℕ
answered input = cond (ltb 16384 (length input)) (refusal_line 1 0) (judged (meaning (plan_text (split 10 input))) (split 10 input))

-- tables of these ceilings: two coordinates a corner
abbrev pub Tables : List ℤ → List ℕ → List ℕ → Type 0
Tables corners lengths counts = (length corners ≡ 1024) × (length lengths ≡ 256) × (length counts ≡ 256)

-- ---- the call

-- how many bytes were written, or 11
abbrev pub Outcome : Type 0
Outcome = Result ℕ OutputTooShort

abbrev pub too_short : Outcome
too_short = Err (record {})

-- 0 where the answer was written, or 11
abbrev pub outcome_number : Outcome → ℕ
outcome_number (Ok count) = 0
outcome_number (Err short) = 11

-- 11 where the output is shorter than the answer, and only there
abbrev pub outcome_of : List ℕ → ℕ → Outcome
outcome_of input room = cond (ltb room (length (answered input))) too_short (Ok (length (answered input)))

-- the output starts with the answer and is otherwise as it was
abbrev pub output_after : Outcome → List ℕ → List ℕ → List ℕ
output_after (Ok count) bytes output = overwritten 0 bytes output
output_after (Err short) bytes output = output

-- what `answer` promises: what it returns, its number by the same condition, the output whole, and that no answer is longer than 33,000 bytes
pub record Answered (input output output' : List ℕ) (r : Outcome) : Type 0 where
  pub answer : r ≡ outcome_of input (length output)
  pub number : outcome_number r ≡ cond (ltb (length output) (length (answered input))) 11 0
  pub written : output' ≡ output_after r (answered input) output
  pub few : length (answered input) ≤ 33000
