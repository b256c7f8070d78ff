-- Demand 3 of a server that calls nothing but exports: its calls are a run of the model. Assumes nothing.
use Rattle.std.specs.Prelude.{Err, None, Ok, Option, Some}
use mathlib.Core.Path.{◌≡◌, refl, sym, ap, ◌∙◌, subst}
use mathlib.Core.Bool.{Bool, true, false}
use mathlib.Core.Logic.{inl, ⊎_elim}
use mathlib.Core.List.{List, [], ◌∷◌, map}
use Prim.Native.Nat.{ℕ}
use native.Mathlib.Omega.{arith}
use lib.IntN.{ℤ, pos}
use lib.ListN.{length}
use lib.Seq.{take_all}
use Rattle.geom.specs.declared.Point.{Point}
use Rattle.geom.specs.Range.{in_range, in_doubled_range}
use Rattle.rules.specs.declared.Kind.{Kind}
use Rattle.rules.specs.declared.Location.{Location}
use Rattle.rules.specs.declared.Location.TheVariants.{Outside}
use Rattle.rules.specs.declared.Refusal.{Refusal}
use Rattle.rules.specs.declared.Refusal.TheVariants.{TextTooLong, BadLine, Uneven, TooMany, NoSuchCorner, PlaceOutOfRange, TableTooShort, PlanOutOfRange, UndoFull, NothingToUndo, Unsound, OffGrammar, Unclosed}
use Rattle.rules.specs.declared.State.{State}
use Rattle.rules.specs.Numbers.{kind_named, refusal_number, reply_number}
use Rattle.rules.specs.Plans.{Plan, plan_reply, plan_half_reply}
use Rattle.rules.specs.Tables.{plan_of}
use Rattle.prepare.specs.Tables as PreparingTables
use Rattle.prepare.specs.Tables.{Tables}
use Rattle.prepare.proofs.Readiness.{unmarked_near}
use Rattle.query.specs.Calls.{LookedUp}
use Rattle.outlines.proofs.Steps.{at_refused}
use Rattle.prepared.specs.Calls.{Looked}
use Rattle.corrections.specs.Answering.{Correction, answered, state_after}
use Rattle.model.specs.declared.Answer.{Answer}
use Rattle.model.specs.declared.Call.{Call}
use Rattle.model.specs.declared.Call.TheVariants.{Move, Undo, Locate, LocateDoubled}
use Rattle.model.specs.Demand.{Turn, Run, end_of, marked_answer}
use Rattle.model.specs.Numbers.{answer_of, answer_number}
use Rattle.model.specs.Prepared.{Prepared, prepared_of, plan_held, Sound}
use Rattle.model.specs.Steps.{early, Does, is_look_up, Step, Early, Open, Settled}
use Rattle.model.proofs.Ways as Ways
use Rattle.model.proofs.Ways.{true_false, settled_open, sound_reaches, locate_step, locate_doubled_step}
use Rattle.model.proofs.Marked.{early_marked, marked}
use Rattle.replay.specs.Replays.{given}
use Rattle.replay.proofs.Ending.{followed}
use Rattle.replay.proofs.LookUps.{locate_is_step, locate_doubled_is_step}
use Rattle.replay.proofs.Starting.{fresh, first_held, first_size}
use Rattle.states.specs.declared.StateNumbers.{StateNumbers}
use Rattle.states.specs.States.{mark_number, state_named, state_numbers, Replied}
use Rattle.capi.specs.declared.exports.PrepareAnswer.{PrepareAnswer}
use Rattle.capi.specs.declared.moves.CorrectionAnswer.{CorrectionAnswer}
use Rattle.capi.specs.Exports.{PrepareSays, prepare_numbers, correction_numbers, CorrectionSays, Written}
use Rattle.capi.specs.Sessions.{Kept, kept_of, CorrectionCalled, LookUpCalled, ExportCalled, Request, requested, Session, session_end, export_number, export_numbers, Served, ServerDemand, ServerMarked}
use Rattle.capi.proofs.Namings.{state_returns}
use Rattle.rules.specs.Answering.{Reply}
use Rattle.prepare.specs.Answers.{Preparing, ready_with}

-- tables as a session meets them: sound unless the plan is marked, whose tables nobody reads
abbrev Fit : Prepared → Type 0
Fit d = d.state.out_of_range ≡ false → Sound d

-- ---- one call of an export is a step

record Stepped (call : Call) (d : Prepared) (number : ℤ) (k' : Kept) : Type 0 where
  answer : Answer
  left : Prepared
  step : Step call d answer left
  number_is : number ≡ export_number call answer
  kept : k' ≡ kept_of left

-- a move or an undo
module _ (call : Call) (d : Prepared) (number : ℤ) (k' : Kept) (C : CorrectionCalled call (kept_of d) number k') (numbered : (a : Answer) → export_number call a ≡ export_number Undo a) where
  abbrev leaving : State → Correction → List ℕ → Prepared
  leaving s correction polygons = prepared_of (state_after s correction) k'.corners d.rings polygons k'.boxes d.parts d.edges k'.undo

  abbrev Promised : State → Correction → Type 0
  Promised s correction = (polygons : List ℕ) → Step call (prepared_of s d.corners d.rings polygons d.boxes d.parts d.edges d.undo) (answered correction) (leaving s correction polygons)

  abbrev Same : Type 0
  Same = ◌≡◌ {A = Written} (record { corners = k'.corners; boxes = k'.boxes; undo = k'.undo }) (record { corners = d.corners; boxes = d.boxes; undo = d.undo })

  -- the state's own numbers name it
  named : (correction : Correction) × Promised d.state correction × (C.answer ≡ correction_numbers d.state correction)
  named = subst (λ (n : Option State). CorrectionSays n Promised Same (state_numbers d.state) C.answer) (state_returns d.state) C.promised

  corrected_step : Stepped call d number k'
  corrected_step =
      let correction = named.0 in
      let is = named.2 in
      record {
        answer = answered correction;
        left = leaving d.state correction d.polygons;
        step = named.1 d.polygons;
        number_is = C.number_is ∙ ap (λ (q : CorrectionAnswer). pos q.refusal) is ∙ sym (numbered (answered correction));
        kept = λ t. record {
          numbers = (C.numbers_are ∙ ap (λ (q : CorrectionAnswer). q.state) is) t;
          corners = k'.corners;
          rings = C.rings t;
          polygons = C.polygons t;
          boxes = k'.boxes;
          parts = C.parts t;
          edges = C.edges t;
          undo = k'.undo;
        };
      }

-- a look-up
reply_number_lem : (reply : Reply) → reply_number reply ≡ answer_number (answer_of reply)
reply_number_lem (Ok location) = refl
reply_number_lem (Err refusal) = refl

-- ring by ring on tables that are sound unless the plan is marked, so that none is short
ring_looked : (call : Call) (d : Prepared) → Fit d → (ranged : Bool) (location : Location) (reply : Reply) → LookedUp d.state d.corners d.rings d.polygons ranged location reply → Ways.Looked call d ranged location reply
ring_looked call d fit ranged location reply l = record {
  before = l.early;
  only = λ refusal e. absurd (go d.state.out_of_range refl refusal e);
  short = λ unmarked near n. absurd (n (sound_reaches call d (fit unmarked)));
  exact = λ s unmarked. l.exact s.plan unmarked;
}
  where
    go : (m : Bool) → d.state.out_of_range ≡ m → (refusal : Refusal) → reply ≡ Err refusal → ⊥
    go true f refusal e = at_refused Outside refusal (sym (l.early (inl f)) ∙ e)
    go false f refusal e = at_refused location refusal (sym (l.exact (fit f).plan f) ∙ e)

module _ (call : Call) (ranged : Point → Bool) (location : Plan → Point → Location) (p : Point) (d : Prepared) (number : ℤ) (k' : Kept) (C : LookUpCalled ranged location p (kept_of d) number k')
    (numbered : (a : Answer) → export_number call a ≡ answer_number a)
    (step : (reply : Reply) → Looked d.state d.corners d.rings d.polygons d.boxes d.parts d.edges (ranged p) (location (plan_held d) p) reply → Step call d (answer_of reply) d)
    (fit : Fit d) (ring_step : (reply : Reply) → Ways.Looked call d (ranged p) (location (plan_held d) p) reply → Step call d (answer_of reply) d) where
  abbrev ByBoxes : State → Reply → Type 0
  ByBoxes s reply = Looked s d.corners d.rings d.polygons d.boxes d.parts d.edges (ranged p) (location (plan_of s d.corners d.rings d.polygons) p) reply

  abbrev ByRings : State → Reply → Type 0
  ByRings s reply = LookedUp s d.corners d.rings d.polygons (ranged p) (location (plan_of s d.corners d.rings d.polygons) p) reply

  replied : (reply : Reply) → Step call d (answer_of reply) d → number ≡ reply_number reply → Stepped call d number k'
  replied reply taken is = record { answer = answer_of reply; left = d; step = taken; number_is = is ∙ reply_number_lem reply ∙ sym (numbered (answer_of reply)); kept = C.left }

  looked_step : Stepped call d number k'
  looked_step = ⊎_elim by_boxes by_rings C.promised
    where
      by_boxes : Replied (state_named (state_numbers d.state)) ByBoxes number → Stepped call d number k'
      by_boxes promised =
          let named : (reply : Reply) × ByBoxes d.state reply × (number ≡ reply_number reply) = subst (λ (n : Option State). Replied n ByBoxes number) (state_returns d.state) promised in
          replied named.0 (step named.0 named.1) named.2

      by_rings : Replied (state_named (state_numbers d.state)) ByRings number → Stepped call d number k'
      by_rings promised =
          let named : (reply : Reply) × ByRings d.state reply × (number ≡ reply_number reply) = subst (λ (n : Option State). Replied n ByRings number) (state_returns d.state) promised in
          replied named.0 (ring_step named.0 (ring_looked call d fit (ranged p) (location (plan_held d) p) named.0 named.1)) named.2

stepped : (call : Call) (d : Prepared) (number : ℤ) (k' : Kept) → Fit d → ExportCalled call (kept_of d) number k' → Stepped call d number k'
stepped (Move i place) d number k' S C = corrected_step (Move i place) d number k' C (λ a. refl)
stepped Undo d number k' S C = corrected_step Undo d number k' C (λ a. refl)
stepped (Locate p) d number k' S C = looked_step (Locate p) in_range plan_reply p d number k' C (λ a. refl) (locate_is_step d p) S (locate_step d p)
stepped (LocateDoubled p) d number k' S C = looked_step (LocateDoubled p) in_doubled_range plan_half_reply p d number k' C (λ a. refl) (locate_doubled_is_step d p) S (locate_doubled_step d p)

-- a step leaves tables fit: a look-up and what is settled early change nothing, and a marked plan's calls are all settled early
step_fit : (call : Call) (d : Prepared) (a : Answer) (d' : Prepared) → Step call d a d' → Fit d → Fit d'
step_fit call d a d' s fit = go (early call d) refl
  where
    does : (c : Call) → Does c d a d' → (is_look_up c ≡ true → d' ≡ d) → Fit d'
    does (Move i place) w l = λ unmarked. w.corrected.sound
    does Undo w l = λ unmarked. w.corrected.sound
    does (Locate p) w l = subst Fit (sym (l refl)) fit
    does (LocateDoubled p) w l = subst Fit (sym (l refl)) fit

    open_step : (m : Bool) → d.state.out_of_range ≡ m → early call d ≡ Open → Fit d'
    open_step true marked is = absurd (settled_open (marked_answer call) (sym (early_marked call d marked) ∙ is))
    open_step false unmarked is = does call (s.does (fit unmarked) is) s.looked

    go : (e : Early) → early call d ≡ e → Fit d'
    go (Settled e) is = subst Fit (sym (s.settled e is).1) fit
    go Open is = open_step d.state.out_of_range refl is

-- ---- from fit tables a session is a run
pub session_run : (requests : List Request) (d : Prepared) → Fit d → Session (kept_of d) requests → Served d requests
unfolding Run end_of Session session_end export_numbers
session_run [] d fit s = record { turns = []; run = tt; calls = refl; numbers = refl; end = refl; lefts = refl }
session_run (r ∷ requests) d fit s =
    let one = stepped r.call d r.number r.left fit s.0 in
    let rest = session_run requests one.left (step_fit r.call d one.answer one.left one.step fit) (subst (λ (k : Kept). Session k requests) one.kept s.1) in
    let turn : Turn = record { call = r.call; answer = one.answer; left = one.left } in
    record {
      turns = turn ∷ rest.turns;
      run = (one.step, rest.run);
      calls = ap (λ (l : List Call). r.call ∷ l) rest.calls;
      numbers = λ t. one.number_is t ∷ rest.numbers t;
      end = ap (λ (k : Kept). session_end k requests) one.kept ∙ rest.end;
      lefts = λ t. one.kept t ∷ rest.lefts t;
    }

-- ---- what `findspot_prepare` gives a session to start from

-- the number of a mark
mark_nought : (m : Bool) → mark_number m ≡ 0 → m ≡ false
mark_nought true e = absurd (omega arith)
mark_nought false e = refl

mark_other : (m : Bool) → (mark_number m ≡ 0 → ⊥) → m ≡ true
mark_other true off = refl
mark_other false off = absurd (off refl)

pub positive : (refusal : Refusal) → refusal_number refusal ≡ 0 → ⊥
positive TextTooLong e = omega arith
positive (BadLine line) e = omega arith
positive Uneven e = omega arith
positive TooMany e = omega arith
positive NoSuchCorner e = omega arith
positive PlaceOutOfRange e = omega arith
positive (TableTooShort table) e = omega arith
positive PlanOutOfRange e = omega arith
positive UndoFull e = omega arith
positive NothingToUndo e = omega arith
positive Unsound e = omega arith
positive (OffGrammar place) e = omega arith
positive Unclosed e = omega arith

module _ (coordinates : List ℤ) (lengths counts : List ℕ) (before first : Tables) where
  abbrev plan_of_kind : Kind → Plan
  plan_of_kind kind = record { kind = kind; coordinates = coordinates; lengths = lengths; counts = counts }

  -- a plan of a named kind, prepared in these tables, and its state in numbers
  pub record Started (number : ℕ) (answer : PrepareAnswer) : Type 0 where
    pub kind : Kind
    pub named : kind_named number ≡ Some kind
    pub state : State
    pub nodes : Option ℕ
    pub prepared : PreparingTables.Prepared (plan_of_kind kind) before first (ready_with state nodes)
    pub numbers : answer.state ≡ state_numbers state

  pub prepare_started : (number : ℕ) (answer : PrepareAnswer) → PrepareSays (kind_named number) (λ kind preparing. PreparingTables.Prepared (plan_of_kind kind) before first preparing) (first ≡ before) answer → answer.refusal ≡ 0 → Started number answer
  prepare_started number answer P accepted = go (kind_named number) refl P
    where
      ready : (kind : Kind) (preparing : Preparing) → kind_named number ≡ Some kind → PreparingTables.Prepared (plan_of_kind kind) before first preparing → answer ≡ prepare_numbers preparing → Started number answer
      ready kind (Ok given) e Q is = record { kind = kind; named = e; state = given.state; nodes = given.nodes; prepared = Q; numbers = ap (λ (q : PrepareAnswer). q.state) is }
      ready kind (Err refusal) e Q is = absurd (positive refusal (sym (ap (λ (q : PrepareAnswer). q.refusal) is) ∙ accepted))

      go : (named : Option Kind) → kind_named number ≡ named → PrepareSays named (λ kind preparing. PreparingTables.Prepared (plan_of_kind kind) before first preparing) (first ≡ before) answer → Started number answer
      go None e Q = absurd (positive Unsound (sym (ap (λ (q : PrepareAnswer). q.refusal) Q.1) ∙ accepted))
      go (Some kind) e Q = ready kind Q.0 e Q.1 Q.2

  -- ---- a session from a plan that `findspot_prepare` accepted, with any undo table
  module _ (number : ℕ) (answer : PrepareAnswer) (S : Started number answer) (undo : List (List ℤ)) (requests : List Request) where
    abbrev plan : Plan
    plan = plan_of_kind S.kind

    -- the tables and the state, and what the server holds of them
    abbrev d : Prepared
    d = given S.state first undo

    abbrev held : Kept
    held = record { numbers = answer.state; corners = first.corners; rings = first.rings; polygons = first.polygons; boxes = first.boxes; parts = first.parts; edges = first.edges; undo = undo }

    held_is : held ≡ kept_of d
    held_is = λ t. record { numbers = S.numbers t; corners = first.corners; rings = first.rings; polygons = first.polygons; boxes = first.boxes; parts = first.parts; edges = first.edges; undo = undo }

    mark_is : answer.state.out_of_range ≡ mark_number S.state.out_of_range
    mark_is = ap (λ (n : StateNumbers). n.out_of_range) S.numbers

    -- demand 3, where the mark that was answered is 0
    pub server_demand : answer.state.out_of_range ≡ 0 → Session held requests → ServerDemand plan d requests
    server_demand unmarked s =
        let near = unmarked_near plan before first S.state S.nodes S.prepared (mark_nought S.state.out_of_range (sym mark_is ∙ unmarked)) in
        let begun = fresh plan before first S.state S.nodes S.prepared undo near in
        let served = session_run requests d (λ e. begun.sound) (subst (λ (k : Kept). Session k requests) held_is s) in
        let follows = followed plan (requested requests) d served.turns (end_of d served.turns) served.run served.calls refl begun (first_held plan before first S.state S.nodes S.prepared undo) (first_size plan before first S.state S.nodes S.prepared undo) in
        record {
          served = served;
          followed = follows;
          numbers = served.numbers ∙ (λ t. export_numbers (served.calls t) (follows.answers t));
        }

    -- where it is not
    pub server_marked : (answer.state.out_of_range ≡ 0 → ⊥) → Session held requests → ServerMarked held requests
    server_marked off s =
        let marked_state = mark_other S.state.out_of_range (λ e. off (mark_is ∙ e)) in
        let served = session_run requests d (λ e. absurd (true_false (sym marked_state ∙ e))) (subst (λ (k : Kept). Session k requests) held_is s) in
        let w = marked served.turns d marked_state served.run in
        let whole = take_all (length served.turns) served.turns (omega arith) in
        record {
          numbers = served.numbers ∙ (λ t. export_numbers (served.calls t) ((w.answers ∙ ap (map marked_answer) served.calls) t));
          left = ap (λ (k : Kept). session_end k requests) held_is ∙ served.end ∙ ap (λ (v : Prepared). kept_of v) (ap (end_of d) (sym whole) ∙ w.left (length served.turns)) ∙ sym held_is;
        }
