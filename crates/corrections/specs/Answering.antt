-- What a correction answers: the state that goes with the tables from then on, or why it is refused (document 01, item 9).
use Rattle.std.specs.Prelude.{Result, Ok, Err}
use Rattle.rules.specs.declared.Refusal.{Refusal}
use Rattle.rules.specs.declared.State.{State}
use Rattle.model.specs.declared.Answer.{Answer}
use Rattle.model.specs.declared.Answer.TheVariants.{Accepted, Refused}

abbrev pub Correction : Type 0
Correction = Result State Refusal

abbrev pub answered : Correction → Answer
answered (Ok next) = Accepted
answered (Err refusal) = Refused refusal

-- a refusal leaves the state as it was
abbrev pub state_after : State → Correction → State
state_after state (Ok next) = next
state_after state (Err refusal) = state
