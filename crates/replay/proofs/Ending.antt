-- What a replay comes to: demand 3 for the plan handed in, or 12 and outside on a marked one. Assumes nothing.
use Rattle.std.specs.Prelude.{Err, Ok, Option}
use mathlib.Core.Path.{◌≡◌, refl, sym, ap, ◌∙◌, subst, transport}
use mathlib.Core.Bool.{Bool, true, false, cond, not}
use mathlib.Core.List.{List, [], ◌∷◌, ◌++◌, map}
use Prim.Native.Nat.{ℕ, ◌*◌, ◌≤◌, ◌<◌}
use native.Mathlib.Omega.{arith}
use borrow.Author.Tests.{le-ltb, lt-ltb}
use lib.Dec.{ltb}
use lib.IntN.{ℤ}
use lib.ListN.{length, take, drop, take-append-drop}
use lib.Seq.{take_all}
use Rattle.geom.specs.Range.{in_range, in_doubled_range}
use Rattle.rules.specs.declared.Location.{Location}
use Rattle.rules.specs.declared.Location.TheVariants.{Outside}
use Rattle.rules.specs.declared.Refusal.{Refusal}
use Rattle.rules.specs.declared.Refusal.TheVariants.{Uneven, TooMany}
use Rattle.rules.specs.declared.State.{State}
use Rattle.rules.specs.Plans.{Plan, too_many, uneven, plan_verdict, plan_in_range}
use Rattle.rules.specs.Replies.{half_reply}
use Rattle.rules.specs.Tables.{plan_of}
use Rattle.prepare.specs.declared.Room.{Room}
use Rattle.prepare.specs.Answers as PreparingAnswers
use Rattle.prepare.specs.Answers.{preparing_number, preparing, with_room, state_of, short_table, Preparing, ready_with}
use Rattle.prepare.specs.Tables as PreparingTables
use Rattle.prepare.specs.Tables.{Tables, room_of}
use Rattle.prepare.proofs.Numbers.{number_by, named, room_told}
use Rattle.prepare.proofs.Holding.{kept, kept_place, kept_rings}
use Rattle.prepare.proofs.Readiness.{state_is, marked_is}
use Rattle.model.specs.declared.Answer.{Answer}
use Rattle.model.specs.declared.Answer.TheVariants.{At}
use Rattle.model.specs.declared.Call.{Call}
use Rattle.model.specs.declared.Call.TheVariants.{Move, Undo, Locate, LocateDoubled}
use Rattle.model.specs.Coded.{call_of}
use Rattle.model.specs.Numbers.{answer_number}
use Rattle.model.specs.Model.{Model, standing, model_call, answers_from, model_from, opened, model_answers, model_after}
use Rattle.model.specs.Prepared.{Prepared, plan_held, Sound}
use Rattle.model.specs.Steps.{at_depth}
use Rattle.model.specs.Demand.{Turn, calls_of, Run, end_of, Fresh, Leaves, AsFirst, lent, marked_answer}
use Rattle.model.proofs.Theorem.{demand}
use Rattle.model.proofs.Marked.{marked}
use Rattle.replay.specs.Replays.{Called, Followed, Replayed, ReplayedMarked, Lent, given, end_state, refused_or, judged, replaying, replay_number, replay_detail, number_due, detail_due, Left, Replays, Outcome, Ran, Refused, AnswersTooShort}
use Rattle.replay.proofs.Starting.{fresh, first_held, first_size}
use Rattle.rules.specs.Answering.{Verdict, Accepted}

-- ---- the model looks at no tree's ring counts
kept_call : (plan : Plan) (room : ℕ) (m : Model) (call : Call) → model_call (kept plan) room m call ≡ model_call plan room m call
unfolding model_call
kept_call plan room m (Move i place) = refl
kept_call plan room m Undo = refl
kept_call plan room m (Locate p) = ap (λ (l : Location). record { answer = At (cond (in_range p) l Outside); left = m }) (kept_place (standing plan m.corners) p)
kept_call plan room m (LocateDoubled p) = ap (λ rings. record { answer = At (cond (in_doubled_range p) (half_reply rings p) Outside); left = m }) (kept_rings (standing plan m.corners))

kept_answers : (plan : Plan) (room : ℕ) (m : Model) (calls : List Call) → answers_from (kept plan) room m calls ≡ answers_from plan room m calls
unfolding answers_from
kept_answers plan room m [] = refl
kept_answers plan room m (call ∷ calls) =
    (λ t. (kept_call plan room m call t).answer ∷ answers_from (kept plan) room (kept_call plan room m call t).left calls)
    ∙ ap (λ (l : List Answer). (model_call plan room m call).answer ∷ l) (kept_answers plan room (model_call plan room m call).left calls)

kept_model : (plan : Plan) (room : ℕ) (m : Model) (calls : List Call) → model_from (kept plan) room m calls ≡ model_from plan room m calls
unfolding model_from
kept_model plan room m [] = refl
kept_model plan room m (call ∷ calls) = (λ t. model_from (kept plan) room (kept_call plan room m call t).left calls) ∙ kept_model plan room (model_call plan room m call).left calls

-- ---- a run from a plan just prepared in range, as its calls for the plan handed in
all_turns : (turns : List Turn) → take (length turns) turns ≡ turns
all_turns turns = take_all (length turns) turns (omega arith)

module _ (plan : Plan) (calls : List Call) (d : Prepared) (turns : List Turn) (d' : Prepared) (run : Run d turns) (calls_are : calls_of turns ≡ calls) (end : end_of d turns ≡ d') where
  module _ (f : Fresh d) (held : plan_held d ≡ kept plan) (size : 2 * d.state.corners ≡ length plan.coordinates) where
    same_answers : model_answers (plan_held d) (lent d) (calls_of turns) ≡ model_answers plan (lent d) calls
    same_answers = (λ t. model_answers (held t) (lent d) (calls_are t)) ∙ kept_answers plan (lent d) (opened plan) calls

    same_model : model_after (plan_held d) (lent d) (calls_of turns) ≡ model_after plan (lent d) calls
    same_model = (λ t. model_after (held t) (lent d) (calls_are t)) ∙ kept_model plan (lent d) (opened plan) calls

    pub followed : Followed plan calls d turns d'
    unfolding plan_of
    followed =
        let w = demand d turns f run in
        let leaves : Leaves d (model_after plan (lent d) calls).stack d' = transport (λ t. Leaves d (same_model t).stack (end t)) w.leaves in
        let count : d'.state.corners ≡ d.state.corners = ap (λ (s : State). s.corners) leaves.state in
        let planned : take (2 * d'.state.corners) d'.corners ≡ (model_after (plan_held d) (lent d) (calls_of turns)).corners = ap (λ (v : Prepared). (plan_held v).coordinates) (sym end) ∙ ap (λ (q : Plan). q.coordinates) w.corners in
        record {
          demand = w;
          answers = w.answers ∙ same_answers;
          corners =
              sym (take-append-drop (2 * d.state.corners) d'.corners)
              ∙ (λ t. (ap (λ (n : ℕ). take (2 * n) d'.corners) (sym count) ∙ planned ∙ ap (λ (m : Model). m.corners) same_model) t ++ (leaves.corners_beyond ∙ ap (λ (n : ℕ). drop n d.corners) size) t);
          sound = subst Sound end w.sound;
          leaves = leaves;
          undone = λ e.
              subst (AsFirst d) (ap (end_of d) (all_turns turns) ∙ end)
              (w.undone (length turns) (ap (λ (l : List Turn). (model_after (plan_held d) (lent d) (calls_of l)).stack) (all_turns turns) ∙ ap (λ (m : Model). m.stack) same_model ∙ e));
        }

-- ---- calls run on a prepared plan
module _ (plan : Plan) (calls : List (List ℤ)) (d : Prepared) (was : List ℤ) (d' : Prepared) (is : List ℤ) (r : Called calls d was d' is) where
  -- in range
  pub replayed : Fresh d → plan_held d ≡ kept plan → 2 * d.state.corners ≡ length plan.coordinates → Replayed plan calls d was d' is
  replayed f held size =
      let w = followed plan (map call_of calls) d r.turns d' r.run r.calls_are r.end f held size in
      record { called = r; followed = w; answers = r.answers_are ∙ ap (λ (l : List Answer). map answer_number l ++ drop (length calls) was) w.answers }

  -- marked
  pub replayed_marked : d.state.out_of_range ≡ true → ReplayedMarked calls d was d' is
  replayed_marked e =
      let w = marked r.turns d e r.run in
      record {
        answers = r.answers_are ∙ ap (λ (l : List Answer). map answer_number l ++ drop (length calls) was) (w.answers ∙ ap (map marked_answer) r.calls_are);
        left = sym r.end ∙ ap (end_of d) (sym (all_turns r.turns)) ∙ w.left (length r.turns);
      }

-- ---- the answer in numbers
module _ (plan : Plan) (room : Room) (lent : ℕ) (calls : List (List ℤ)) (answers : ℕ) where
  judged_number : (q : Preparing) (end : State) → replay_number (judged q end) ≡ preparing_number q
  judged_number (Ok ready) end = refl
  judged_number (Err refusal) end = refl

  judged_detail : (q : Preparing) (end : State) → replay_detail (judged q end) ≡ named q
  judged_detail (Ok ready) end = refl
  judged_detail (Err refusal) end = refl

  abbrev verdict : Bool → Bool → Verdict
  verdict many odd = cond many (Err TooMany) (cond odd (Err Uneven) Accepted)

  abbrev outcome : Bool → Bool → Bool → Outcome
  outcome many odd few = refused_or (verdict many odd) (cond few AnswersTooShort (judged (PreparingAnswers.judged (verdict many odd) (with_room (state_of plan) room)) (end_state plan lent calls)))

  number_due_lem : replay_number (replaying plan room lent calls answers) ≡ number_due plan room calls answers
  unfolding replaying preparing plan_verdict number_due
  number_due_lem = go (too_many plan) (uneven plan) (ltb answers (length calls))
    where
      go : (many odd few : Bool) → replay_number (outcome many odd few) ≡ cond many 4 (cond odd 3 (cond few 11 (number_by (short_table (state_of plan) room))))
      go true odd few = refl
      go false true few = refl
      go false false true = refl
      go false false false = judged_number (with_room (state_of plan) room) (end_state plan lent calls) ∙ (room_told (state_of plan) room).number

  detail_due_lem : replay_detail (replaying plan room lent calls answers) ≡ detail_due plan room calls answers
  unfolding replaying preparing plan_verdict detail_due
  detail_due_lem = go (too_many plan) (uneven plan) (ltb answers (length calls))
    where
      go : (many odd few : Bool) → replay_detail (outcome many odd few) ≡ cond many 0 (cond odd 0 (cond few 0 (short_table (state_of plan) room)))
      go true odd few = refl
      go false true few = refl
      go false false true = refl
      go false false false = judged_detail (with_room (state_of plan) room) (end_state plan lent calls) ∙ (room_told (state_of plan) room).names

-- ---- the ways out of a replay
module _ (plan : Plan) (before : Lent) (calls : List (List ℤ)) where
  -- what the promise says, from the answer and what became of the tables
  replays_as : (after : Lent) (r : Outcome) → r ≡ replaying plan (room_of before.tables) (length before.undo) calls (length before.answers) → Left plan before after calls r → Replays plan before after calls r
  replays_as after r e l = record {
    answer = e;
    number = ap replay_number e ∙ number_due_lem plan (room_of before.tables) (length before.undo) calls (length before.answers);
    detail = ap replay_detail e ∙ detail_due_lem plan (room_of before.tables) (length before.undo) calls (length before.answers);
    tables = l;
  }

  -- 4 or 3 of the plan
  pub replay_judged : (refusal : Refusal) → plan_verdict plan ≡ Err refusal → Replays plan before before calls (Refused refusal)
  unfolding replaying
  replay_judged refusal e =
      replays_as before (Refused refusal)
      (ap (λ v. refused_or v (cond (ltb (length before.answers) (length calls)) AnswersTooShort (judged (preparing plan (room_of before.tables)) (end_state plan (length before.undo) calls)))) (sym e)) refl

  module _ (accepted : plan_verdict plan ≡ Accepted) where
    -- which test of the answer table decides, once the plan is accepted
    by_room : (few : Bool) → ltb (length before.answers) (length calls) ≡ few
        → cond few AnswersTooShort (judged (preparing plan (room_of before.tables)) (end_state plan (length before.undo) calls)) ≡ replaying plan (room_of before.tables) (length before.undo) calls (length before.answers)
    unfolding replaying
    by_room few e = λ t. refused_or (sym accepted t) (cond (sym e t) AnswersTooShort (judged (preparing plan (room_of before.tables)) (end_state plan (length before.undo) calls)))

    -- too few places for the answers
    pub replay_short : length before.answers < length calls → Replays plan before before calls AnswersTooShort
    replay_short h = replays_as before AnswersTooShort (by_room true (lt-ltb (length before.answers) (length calls) h)) refl

    module _ (enough : length calls ≤ length before.answers) where
      -- what is answered by what preparing answers
      answered : (q : Preparing) (end : State) → q ≡ preparing plan (room_of before.tables) → end ≡ end_state plan (length before.undo) calls → judged q end ≡ replaying plan (room_of before.tables) (length before.undo) calls (length before.answers)
      answered q end e f = (λ t. judged (e t) (f t)) ∙ by_room false (le-ltb (length before.answers) (length calls) enough)

      -- preparing was refused
      pub replay_refused : (refusal : Refusal) (after : Tables) → PreparingTables.Prepared plan before.tables after (Err refusal)
          → Replays plan before (record { tables = after; undo = before.undo; answers = before.answers }) calls (Refused refusal)
      replay_refused refusal after P =
          replays_as (record { tables = after; undo = before.undo; answers = before.answers }) (Refused refusal) (answered (Err refusal) (end_state plan (length before.undo) calls) P.answer refl)
          (λ t. record { tables = P.tables t; undo = before.undo; answers = before.answers })

      -- the calls were run
      module _ (first : Tables) (state : State) (nodes : Option ℕ) (P : PreparingTables.Prepared plan before.tables first (ready_with state nodes)) (after : Lent) (end : State)
          (r : Called calls (given state first before.undo) before.answers (given end after.tables after.undo) after.answers) where
        is : state ≡ state_of plan
        is = state_is plan before.tables first state nodes P

        near : plan_in_range plan ≡ true → Replayed plan calls (given state first before.undo) before.answers (given end after.tables after.undo) after.answers
        near e = replayed plan calls (given state first before.undo) before.answers (given end after.tables after.undo) after.answers r
            (fresh plan before.tables first state nodes P before.undo e)
            (first_held plan before.tables first state nodes P before.undo)
            (first_size plan before.tables first state nodes P before.undo)

        stray : plan_in_range plan ≡ false → ReplayedMarked calls (given state first before.undo) before.answers (given end after.tables after.undo) after.answers
        stray e = replayed_marked plan calls (given state first before.undo) before.answers (given end after.tables after.undo) after.answers r
            (marked_is plan before.tables first state nodes P ∙ ap not e)

        end_is : end ≡ end_state plan (length before.undo) calls
        end_is = go (plan_in_range plan) refl
          where
            go : (b : Bool) → plan_in_range plan ≡ b → end ≡ end_state plan (length before.undo) calls
            go true e = (near e).followed.leaves.state ∙ (λ t. cond (sym e t) (at_depth (is t) (length (model_after plan (length before.undo) (map call_of calls)).stack)) (state_of plan))
            go false e = ap (λ (v : Prepared). v.state) (stray e).left ∙ (λ t. cond (sym e t) (at_depth (state_of plan) (length (model_after plan (length before.undo) (map call_of calls)).stack)) (is t))

        pub replay_ran : Replays plan before after calls (Ran end)
        replay_ran =
            replays_as after (Ran end) (answered (ready_with state nodes) end P.answer end_is)
            (record {
              first = first;
              nodes = nodes;
              prepared = subst (λ (s : State). PreparingTables.Prepared plan before.tables first (ready_with s nodes)) is P;
              near = λ e. subst (λ (s : State). Replayed plan calls (given s first before.undo) before.answers (given end after.tables after.undo) after.answers) is (near e);
              stray = λ e. subst (λ (s : State). ReplayedMarked calls (given s first before.undo) before.answers (given end after.tables after.undo) after.answers) is (stray e);
            })
