-- What a replay promises: a plan prepared, and a coded list of calls run on it (demand 3, over code that runs).
use Rattle.std.specs.Prelude.{◌≡◌, true, false, cond, List, [], ◌++◌, map, ℕ, eqb, ltb, ℤ, length, drop, Result, Err, Ok, Option}
use Rattle.rules.specs.declared.Refusal.{Refusal}
use Rattle.rules.specs.declared.State.{State}
use Rattle.rules.specs.Numbers.{refusal_number, refusal_detail}
use Rattle.rules.specs.Plans.{Plan, too_many, uneven, plan_verdict, plan_in_range}
use Rattle.prepare.specs.declared.Room.{Room}
use Rattle.replay.specs.declared.ReplayRefusal.{ReplayRefusal}
use Rattle.prepare.specs.Answers.{preparing, state_of, short_table, Preparing, ready_with}
use Rattle.prepare.specs.Tables as PreparingTables
use Rattle.prepare.specs.Tables.{Tables, room_of}
use Rattle.model.specs.declared.Call.{Call}
use Rattle.model.specs.Coded.{call_of}
use Rattle.model.specs.Numbers.{answer_number}
use Rattle.model.specs.Model.{model_answers, model_after}
use Rattle.model.specs.Prepared.{Prepared, prepared_of, Sound}
use Rattle.model.specs.Steps.{at_depth}
use Rattle.model.specs.Demand.{Turn, calls_of, answers_of, Run, end_of, Leaves, AsFirst, Demand, lent, marked_answer}
use Rattle.rules.specs.Answering.{Verdict, Accepted}

-- what a replay answers: the calls were run and this state goes with the tables, or why not
abbrev pub Outcome : Type 0
Outcome = Result State ReplayRefusal

pattern abbrev pub Ran : State → Outcome
Ran state = Ok state

pattern abbrev pub Refused : Refusal → Outcome
Refused refusal = Err (ReplayRefusal.Plan refusal)

pattern abbrev pub AnswersTooShort : Outcome
AnswersTooShort = Err ReplayRefusal.AnswersTooShort

-- ---- a list of coded calls

-- they were run from d to d', and their coded answers written over the first places of `was`; on any tables
pub record Called (calls : List (List ℤ)) (d : Prepared) (was : List ℤ) (d' : Prepared) (is : List ℤ) : Type 0 where
  pub turns : List Turn
  pub run : Run d turns
  pub calls_are : calls_of turns ≡ map call_of calls
  pub end : end_of d turns ≡ d'
  pub answers_are : is ≡ map answer_number (answers_of turns) ++ drop (length calls) was

-- a run from a plan just prepared in range to d', for the plan handed in: the answers are the model's, so are the corners, the tables are sound
-- and otherwise as they were, and with nothing left to undo all is as first prepared. `demand` says it call by call
pub record Followed (plan : Plan) (calls : List Call) (d : Prepared) (turns : List Turn) (d' : Prepared) : Type 0 where
  pub demand : Demand d turns
  pub answers : answers_of turns ≡ model_answers plan (lent d) calls
  pub corners : d'.corners ≡ (model_after plan (lent d) calls).corners ++ drop (length plan.coordinates) d.corners
  pub sound : Sound d'
  pub leaves : Leaves d (model_after plan (lent d) calls).stack d'
  pub undone : (model_after plan (lent d) calls).stack ≡ [] → AsFirst d d'

-- coded calls run from a plan just prepared in range: what was run, what follows for the plan, and the numbers written
pub record Replayed (plan : Plan) (calls : List (List ℤ)) (d : Prepared) (was : List ℤ) (d' : Prepared) (is : List ℤ) : Type 0 where
  pub called : Called calls d was d' is
  pub followed : Followed plan (map call_of calls) d called.turns d'
  pub answers : is ≡ map answer_number (model_answers plan (lent d) (map call_of calls)) ++ drop (length calls) was

-- on a marked plan: 12 and outside, and nothing changes
pub record ReplayedMarked (calls : List (List ℤ)) (d : Prepared) (was : List ℤ) (d' : Prepared) (is : List ℤ) : Type 0 where
  pub answers : is ≡ map answer_number (map marked_answer (map call_of calls)) ++ drop (length calls) was
  pub left : d' ≡ d

-- ---- the call

-- all that is lent
pub record Lent : Type 0 where
  pub tables : Tables
  pub undo : List (List ℤ)
  pub answers : List ℤ

-- tables, a state and an undo table as calls are given them
abbrev pub given : State → Tables → List (List ℤ) → Prepared
given state t undo = prepared_of state t.corners t.rings t.polygons t.boxes t.parts t.edges undo

-- the state at the end: as many moves can be undone as the model's stack has entries; a marked plan's stays
abbrev pub end_state : Plan → ℕ → List (List ℤ) → State
end_state plan lent calls = cond (plan_in_range plan) (at_depth (state_of plan) (length (model_after plan lent (map call_of calls)).stack)) (state_of plan)

-- 4 and 3 of the plan come first
abbrev pub refused_or : Verdict → Outcome → Outcome
refused_or Accepted other = other
refused_or (Err refusal) other = Refused refusal

-- what is answered by what preparing answers
abbrev pub judged : Preparing → State → Outcome
judged (Ok ready) end = Ran end
judged (Err refusal) end = Refused refusal

-- 4, then 3; 11 where the answer table has fewer places than there are calls; 11 of a table that preparing needs; else the state at the end
unfoldable pub replaying : Plan → Room → ℕ → List (List ℤ) → ℕ → Outcome
replaying plan room lent calls answers = refused_or (plan_verdict plan) (cond (ltb answers (length calls)) AnswersTooShort (judged (preparing plan room) (end_state plan lent calls)))

-- 0 where the calls were run, or the refusal's number
abbrev pub replay_number : Outcome → ℕ
replay_number (Ran state) = 0
replay_number (Refused refusal) = refusal_number refusal
replay_number AnswersTooShort = 11

-- the table that preparing's 11 names; the answer table is none of document 01's, and has no number among them
abbrev pub replay_detail : Outcome → ℕ
replay_detail (Ran state) = 0
replay_detail (Refused refusal) = refusal_detail refusal
replay_detail AnswersTooShort = 0

-- both by their conditions, in this order: 4, 3, the answer table's 11, 11 with its table, 0
unfoldable pub number_due : Plan → Room → List (List ℤ) → ℕ → ℕ
number_due plan room calls answers = cond (too_many plan) 4 (cond (uneven plan) 3 (cond (ltb answers (length calls)) 11 (cond (eqb (short_table (state_of plan) room) 0) 0 11)))

unfoldable pub detail_due : Plan → Room → List (List ℤ) → ℕ → ℕ
detail_due plan room calls answers = cond (too_many plan) 0 (cond (uneven plan) 0 (cond (ltb answers (length calls)) 0 (short_table (state_of plan) room)))

-- the plan was prepared, which left these tables, and the calls were run on them
pub record Ended (plan : Plan) (before after : Lent) (calls : List (List ℤ)) (state : State) : Type 0 where
  pub first : Tables
  pub nodes : Option ℕ
  pub prepared : PreparingTables.Prepared plan before.tables first (ready_with (state_of plan) nodes)
  pub near : plan_in_range plan ≡ true → Replayed plan calls (given (state_of plan) first before.undo) before.answers (given state after.tables after.undo) after.answers
  pub stray : plan_in_range plan ≡ false → ReplayedMarked calls (given (state_of plan) first before.undo) before.answers (given state after.tables after.undo) after.answers

-- a refusal changes nothing lent
abbrev pub Left : Plan → Lent → Lent → List (List ℤ) → Outcome → Type 0
Left plan before after calls (Ran state) = Ended plan before after calls state
Left plan before after calls (Refused refusal) = after ≡ before
Left plan before after calls AnswersTooShort = after ≡ before

-- answer and tables of `replay`
pub record Replays (plan : Plan) (before after : Lent) (calls : List (List ℤ)) (r : Outcome) : Type 0 where
  pub answer : r ≡ replaying plan (room_of before.tables) (length before.undo) calls (length before.answers)
  pub number : replay_number r ≡ number_due plan (room_of before.tables) calls (length before.answers)
  pub detail : replay_detail r ≡ detail_due plan (room_of before.tables) calls (length before.answers)
  pub tables : Left plan before after calls r
