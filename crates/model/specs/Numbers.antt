-- Replies as answers, and the number of each answer (document 01, item 11, "From the input", "From the state").
use Rattle.std.specs.Prelude.{ℤ, pos, Err, Ok}
use Rattle.rules.specs.Numbers.{reply_number}
use Rattle.model.specs.declared.Answer.{Answer}
use Rattle.model.specs.declared.Answer.TheVariants.{At, Accepted, Refused}
use Rattle.rules.specs.Answering.{Reply}

-- a look-up's reply as an answer
abbrev pub answer_of : Reply → Answer
answer_of (Ok location) = At location
answer_of (Err refusal) = Refused refusal

-- a place or minus a refusal as item 11 numbers them, and 3 for an acceptance
abbrev pub answer_number : Answer → ℤ
answer_number (At location) = reply_number (Ok location)
answer_number Accepted = pos 3
answer_number (Refused refusal) = reply_number (Err refusal)
