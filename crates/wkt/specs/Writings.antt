-- What writing a plan as Well-Known Text answers, and what the output then holds (document 02, R-1): "writing tests 4 and 3 first, a tree or
-- an empty ring gets 22, then more than 65,536 bytes gets 1, then a short output gets 11 as sixth table".
use Rattle.std.specs.Prelude.{◌≡◌, Bool, not, cond, ◌&&◌, List, ℕ, eqb, ltb, ℤ, length, Err, Ok, Result}
use Rattle.fields.specs.Written.{overwritten}
use Rattle.rules.specs.declared.Refusal.TheVariants.{TextTooLong, TableTooShort, Unsound, Unclosed}
use Rattle.rules.specs.declared.Table.TheVariants.{Output}
use Rattle.rules.specs.Lists.{any_of}
use Rattle.rules.specs.Numbers.{refusal_number, refusal_detail}
use Rattle.rules.specs.Plans.{Plan, is_list, too_many, uneven, plan_verdict}
use Rattle.grammar.specs.Texts.{wkt_of}
use Rattle.writer.specs.Lengths.{AllFit}
use Rattle.rules.specs.Answering.{Verdict, Accepted}
use Rattle.rules.specs.declared.Refusal.{Refusal}

-- "a tree or an empty ring gets 22"
unfoldable pub drawable : Plan → Bool
drawable plan = is_list plan.kind && not (any_of (λ n. eqb n 0) plan.lengths)

-- "then more than 65,536 bytes gets 1, then a short output gets 11 as sixth table": for a text and an output of these lengths
abbrev pub with_output : ℕ → ℕ → Result ℕ Refusal
with_output bytes room = cond (ltb 65536 bytes) (Err TextTooLong) (cond (ltb room bytes) (Err (TableTooShort Output)) (Ok bytes))

-- 22, then 1, then 11
abbrev pub drawn_writing : Plan → ℕ → Result ℕ Refusal
drawn_writing plan room = cond (drawable plan) (with_output (length (wkt_of plan)) room) (Err Unclosed)

abbrev pub writing_of : Verdict → Plan → ℕ → Result ℕ Refusal
writing_of Accepted plan room = drawn_writing plan room
writing_of (Err refusal) plan room = Err refusal

-- "writing tests 4 and 3 first", into an output of this length
unfoldable pub writing : Plan → ℕ → Result ℕ Refusal
writing plan room = writing_of (plan_verdict plan) plan room

-- where a number names no kind: 4 and 3 come first, as a tree has them, then 15
abbrev pub unnamed_writing : Verdict → Result ℕ Refusal
unnamed_writing Accepted = Err Unsound
unnamed_writing (Err refusal) = Err refusal

-- ---- the same in numbers

-- 0 where the text was written, or the refusal's number
abbrev pub writing_number : (Result ℕ Refusal) → ℕ
writing_number (Ok bytes) = 0
writing_number (Err refusal) = refusal_number refusal

-- 11's table, and 0 with any other answer
abbrev pub writing_detail : (Result ℕ Refusal) → ℕ
writing_detail (Ok bytes) = 0
writing_detail (Err refusal) = refusal_detail refusal

unfoldable pub number_due : Plan → ℕ → ℕ
number_due plan room =
    cond (too_many plan) 4
    (cond (uneven plan) 3
    (cond (not (drawable plan)) 22
    (cond (ltb 65536 (length (wkt_of plan))) 1
    (cond (ltb room (length (wkt_of plan))) 11 0))))

unfoldable pub detail_due : Plan → ℕ → ℕ
detail_due plan room = cond (eqb (number_due plan room) 11) 6 0

-- ---- the call

-- the output after writing: it begins with the text and is otherwise as it was
abbrev pub output_after : (Result ℕ Refusal) → List ℕ → List ℕ → List ℕ
output_after (Ok bytes) text output = overwritten 0 text output
output_after (Err refusal) text output = output

-- where the text was written, every number has 64 bits, as the numbers of a lent table have
abbrev pub Fitting : (Result ℕ Refusal) → List ℤ → Type 0
Fitting (Ok bytes) numbers = AllFit numbers
Fitting (Err refusal) numbers = Unit {0}

-- an answer that is due, before anything is written
pub record Answered (coordinates : List ℤ) (due r : Result ℕ Refusal) : Type 0 where
  pub answer : r ≡ due
  pub fits : Fitting r coordinates

-- answer and output of `write_wkt`
pub record WktWritten (plan : Plan) (output output' : List ℕ) (r : Result ℕ Refusal) : Type 0 where
  pub answer : r ≡ writing plan (length output)
  pub number : writing_number r ≡ number_due plan (length output)
  pub detail : writing_detail r ≡ detail_due plan (length output)
  pub output_written : output' ≡ output_after r (wkt_of plan) output
  pub fits : Fitting r plan.coordinates
