-- Wrong replays that the contract rules out, whatever their code is. Assumes nothing.
use Rattle.std.specs.Prelude.{Err, Option}
use mathlib.Core.Path.{◌≡◌, sym, ap, ◌∙◌}
use mathlib.Core.Bool.{Bool, true, false, cond}
use mathlib.Core.List.{List, [], ◌++◌, map}
use Prim.Native.Nat.{ℕ, ◌≤◌, ◌<◌}
use borrow.Author.Tests.{le-ltb, lt-ltb}
use lib.Dec.{ltb}
use lib.IntN.{ℤ}
use lib.ListN.{length, drop}
use Rattle.rules.specs.declared.Refusal.{Refusal}
use Rattle.rules.specs.declared.State.{State}
use Rattle.rules.specs.Plans.{Plan, plan_verdict}
use Rattle.prepare.specs.Answers.{preparing, ready_with}
use Rattle.prepare.specs.Tables.{room_of}
use Rattle.model.specs.Coded.{call_of}
use Rattle.model.specs.Model.{model_after}
use Rattle.model.specs.Prepared.{Prepared}
use Rattle.model.specs.Demand.{lent}
use Rattle.replay.specs.Replays.{Replayed, Lent, end_state, refused_or, judged, replaying, Replays, Outcome, Ran, Refused, AnswersTooShort}
use Rattle.rules.specs.Answering.{Accepted}

module _ (plan : Plan) (before after : Lent) (calls : List (List ℤ)) (r : Outcome) (R : Replays plan before after calls r) where
  -- the answer table's 11 before the plan's 4 or 3
  pub plan_first : (refusal : Refusal) → plan_verdict plan ≡ Err refusal → r ≡ Refused refusal
  unfolding replaying
  plan_first refusal e =
      R.answer ∙ ap (λ v. refused_or v (cond (ltb (length before.answers) (length calls)) AnswersTooShort (judged (preparing plan (room_of before.tables)) (end_state plan (length before.undo) calls)))) e

  module _ (accepted : plan_verdict plan ≡ Accepted) where
    by_room : (few : Bool) → ltb (length before.answers) (length calls) ≡ few → r ≡ cond few AnswersTooShort (judged (preparing plan (room_of before.tables)) (end_state plan (length before.undo) calls))
    unfolding replaying
    by_room few e = R.answer ∙ (λ t. refused_or (accepted t) (cond (e t) AnswersTooShort (judged (preparing plan (room_of before.tables)) (end_state plan (length before.undo) calls))))

    -- calls run although their answers have no room, or preparing's 11 first
    pub short_named : length before.answers < length calls → r ≡ AnswersTooShort
    short_named h = by_room true (lt-ltb (length before.answers) (length calls) h)

    module _ (room : length calls ≤ length before.answers) where
      judged_is : r ≡ judged (preparing plan (room_of before.tables)) (end_state plan (length before.undo) calls)
      judged_is = by_room false (le-ltb (length before.answers) (length calls) room)

      -- refusal throughout: a plan that preparing takes is run, to the state that the model's stack gives
      pub not_refused : (state : State) (nodes : Option ℕ) → preparing plan (room_of before.tables) ≡ ready_with state nodes → r ≡ Ran (end_state plan (length before.undo) calls)
      not_refused state nodes e = judged_is ∙ ap (λ q. judged q (end_state plan (length before.undo) calls)) e

      -- another number than preparing's
      pub refusal_kept : (refusal : Refusal) → preparing plan (room_of before.tables) ≡ Err refusal → r ≡ Refused refusal
      refusal_kept refusal e = judged_is ∙ ap (λ q. judged q (end_state plan (length before.undo) calls)) e

-- tables written before a refusal
pub refusal_writes_nothing : (plan : Plan) (before after : Lent) (calls : List (List ℤ)) (refusal : Refusal) → Replays plan before after calls (Refused refusal) → after ≡ before
refusal_writes_nothing plan before after calls refusal R = R.tables

module _ (plan : Plan) (calls : List (List ℤ)) (d : Prepared) (was : List ℤ) (d' : Prepared) (is : List ℤ) (R : Replayed plan calls d was d' is) where
  -- moves merely acknowledged: corners that the model moves do not stay as they were
  pub moves_acknowledged : ((model_after plan (lent d) (map call_of calls)).corners ++ drop (length plan.coordinates) d.corners ≡ d.corners → ⊥) → d'.corners ≡ d.corners → ⊥
  moves_acknowledged moved stayed = moved (sym R.followed.corners ∙ stayed)

  -- boxes or corners that are not as first prepared once all moves are undone
  pub all_undone : (model_after plan (lent d) (map call_of calls)).stack ≡ [] → (d'.boxes ≡ d.boxes) × (d'.corners ≡ d.corners) × (d'.edges ≡ d.edges)
  all_undone e = let first = R.followed.undone e in (first.boxes, first.corners, first.edges)

  -- records that are lost or left over: the depth is how many entries the model's stack has
  pub depth_told : d'.state.undo_depth ≡ length (model_after plan (lent d) (map call_of calls)).stack
  depth_told = ap (λ (s : State). s.undo_depth) R.followed.leaves.state
