-- Demand 3, from what the calls promise alone: every run from a plan just prepared in range follows the model. Assumes nothing.
use mathlib.Core.Path.{◌≡◌, refl, sym, ap, ◌∙◌, subst, transport}
use mathlib.Core.Bool.{Bool, true, false, cond, ◌&&◌}
use mathlib.Core.List.{List, [], ◌∷◌}
use Prim.Native.Nat.{ℕ, zero, suc, ◌-◌, ◌*◌, ◌/◌, ◌≤◌, ◌<◌}
use native.Mathlib.Decide.{dec_lt}
use native.Mathlib.Numerals.{add-one}
use native.Mathlib.Omega.{arith}
use borrow.Author.Tests.{le-leb, eq-eqb, ne_eqb}
use lib.Dec.{leb}
use lib.IntN.{ℤ, pos}
use lib.ListN.{length, get_or, set, take, drop, length-set}
use lib.Seq.{get_or-set_same, get_or-set_other, ext_get_or}
use Rattle.geom.specs.declared.Point.{Point}
use Rattle.geom.specs.Range.{in_range, in_doubled_range}
use Rattle.rules.specs.declared.Location.{Location}
use Rattle.rules.specs.declared.Location.TheVariants.{Outside}
use Rattle.rules.specs.declared.Refusal.TheVariants.{NoSuchCorner, PlaceOutOfRange, PlanOutOfRange, UndoFull, NothingToUndo}
use Rattle.rules.specs.declared.State.{State}
use Rattle.rules.specs.Nodes.{node_count}
use Rattle.rules.specs.Plans.{Plan, corner_at, corner_count, rings_of, kind_reply, plan_in_range, plan_reply, plan_half_reply}
use Rattle.rules.specs.Replies.{half_reply}
use Rattle.rules.specs.Tables.{plan_of}
use Rattle.index.specs.Sound.{Smallest}
use Rattle.index.proofs.Soundness.{smallest_one}
use Rattle.model.specs.declared.Answer.{Answer}
use Rattle.model.specs.declared.Answer.TheVariants.{At, Refused}
use Rattle.model.specs.declared.Call.{Call}
use Rattle.model.specs.declared.Call.TheVariants.{Move, Undo, Locate, LocateDoubled}
use Rattle.model.specs.Entries.{put_corner, put_back, Entry, entry_of, entry_in, undo_row, is_recorded, is_full}
use Rattle.model.specs.Model.{Model, Line, standing, refuse, accept, pushed, model_locate, model_locate_doubled, model_call, answers_from, model_from, opened}
use Rattle.model.specs.Prepared.{Prepared, plan_held, Sound}
use Rattle.model.specs.Steps.{refusing, undo_early, look_early, early, at_depth, moved_state, moved_undo, Moves, latest, TakesBack, Step, Early, Open, Settled}
use Rattle.model.specs.Demand.{Turn, calls_of, answers_of, Run, end_of, Changes, Allowed, Framed, Frames, Fresh, AsFirst, lent, Stacked, Leaves, Demand}
use Rattle.model.proofs.Corners.{put_length, put_other, put_same, put_back_lem, put_take, put_drop, corner_take, count_take}
use Rattle.model.proofs.Ways.{accepted_refused, unrecorded_same, open_move}

-- ---- the undo stack, in the undo table and as what it takes back

stacked_set : (undo : List (List ℤ)) (k : ℕ) (row : List ℤ) (stack : List Entry) → length stack ≤ k → Stacked undo stack → Stacked (set undo k row) stack
unfolding Stacked
stacked_set undo k row [] h s = tt
stacked_set undo k row (entry ∷ rest) h s = (get_or-set_other undo k (length rest) row [] (λ e. omega arith) ∙ s.0, stacked_set undo k row rest (omega arith) s.1)

-- the corners once every entry is taken back
unwound : List ℤ → List Entry → List ℤ
unwound corners [] = corners
unwound corners (entry ∷ rest) = unwound (put_back corners entry) rest

-- ---- the tables agree with the model

-- first the tables as first prepared, then the model's corners and stack, then the tables now
record Agrees (d₀ : Prepared) (corners : List ℤ) (stack : List Entry) (d : Prepared) : Type 0 where
  sound : Sound d
  unmarked : d₀.state.out_of_range ≡ false
  state : d.state ≡ at_depth d₀.state (length stack)
  rings : d.rings ≡ d₀.rings
  polygons : d.polygons ≡ d₀.polygons
  parts : d.parts ≡ d₀.parts
  edges : d.edges ≡ d₀.edges
  room : length d.undo ≡ lent d₀
  corners_are : take (2 * d₀.state.corners) d.corners ≡ corners
  corners_beyond : drop (2 * d₀.state.corners) d.corners ≡ drop (2 * d₀.state.corners) d₀.corners
  stacked : Stacked d.undo stack
  unwinds : unwound d.corners stack ≡ d₀.corners
  boxes_long : length d.boxes ≡ length d₀.boxes
  beyond : (p : ℕ) → node_count d₀.state.corners ≤ p → get_or d.boxes p [] ≡ get_or d₀.boxes p []

abbrev AgreesWith : Prepared → Model → Prepared → Type 0
AgreesWith d₀ m d = Agrees d₀ m.corners m.stack d

held_first : (d : Prepared) → take (2 * d.state.corners) d.corners ≡ (plan_held d).coordinates
unfolding plan_of
held_first d = refl

start : (d : Prepared) → Fresh d → AgreesWith d (opened (plan_held d)) d
unfolding Stacked unwound
start d f = record {
  sound = f.sound;
  unmarked = f.unmarked;
  state = λ t. at_depth d.state (f.nothing t);
  rings = refl;
  polygons = refl;
  parts = refl;
  edges = refl;
  room = refl;
  corners_are = held_first d;
  corners_beyond = refl;
  stacked = tt;
  unwinds = refl;
  boxes_long = refl;
  beyond = λ p h. refl;
}

-- ---- one step
record Follows (d₀ : Prepared) (m : Model) (call : Call) (d : Prepared) (a : Answer) (d' : Prepared) : Type 0 where
  answer : a ≡ (model_call (plan_held d₀) (lent d₀) m call).answer
  agrees : AgreesWith d₀ (model_call (plan_held d₀) (lent d₀) m call).left d'
  framed : Framed call d a d'

-- where nothing changed, any frame holds
same_changes : (i k : ℕ) (d d' : Prepared) → d' ≡ d → Changes i k d d'
same_changes i k d d' e = subst (λ (v : Prepared). Changes i k d v) (sym e) (record {
  state = refl;
  rings = refl;
  polygons = refl;
  parts = refl;
  edges = refl;
  corners_long = refl;
  corners = λ j a b. refl;
  undo_long = refl;
  undo = λ j a. refl;
  boxes_long = refl;
  boxes = λ p h. refl;
})

same_allowed : (call : Call) (d d' : Prepared) → d' ≡ d → Allowed call d d'
same_allowed (Move i place) d d' e = same_changes i d.state.undo_depth d d' e
same_allowed Undo d d' e = same_changes (latest d).corner (d.state.undo_depth - 1) d d' e
same_allowed (Locate p) d d' e = e
same_allowed (LocateDoubled p) d d' e = e

-- a call that leaves the model and the tables as they were
still : (d₀ : Prepared) (m : Model) (call : Call) (d : Prepared) (a : Answer) (d' : Prepared) (said : Answer) → AgreesWith d₀ m d → Step call d a d'
    → model_call (plan_held d₀) (lent d₀) m call ≡ record { answer = said; left = m } → a ≡ said → d' ≡ d → Follows d₀ m call d a d'
still d₀ m call d a d' said g s q e f = record {
  answer = e ∙ sym (ap (λ (l : Line). l.answer) q);
  agrees = subst (λ (l : Line). AgreesWith d₀ l.left d') (sym q) (subst (λ (v : Prepared). AgreesWith d₀ m v) (sym f) g);
  framed = record { allowed = same_allowed call d d' f; refused = s.refused };
}

-- the line that what is settled early leads to
line_of : Early → Model → Line → Line
line_of Open m l = l
line_of (Settled a) m l = record { answer = a; left = m }

rule : (p q r : Bool) (m : Model) (l : Line) → cond p (refuse m NoSuchCorner) (cond q (cond r (refuse m UndoFull) l) (refuse m PlaceOutOfRange))
    ≡ line_of (cond p (refusing NoSuchCorner) (cond q (cond r (refusing UndoFull) Open) (refusing PlaceOutOfRange))) m l
unfolding line_of
rule true q r m l = refl
rule false false r m l = refl
rule false true true m l = refl
rule false true false m l = refl

module _ (d₀ : Prepared) (corners : List ℤ) (stack : List Entry) (d : Prepared) (g : Agrees d₀ corners stack d) where
  -- the state and the plan held
  count_is : d.state.corners ≡ d₀.state.corners
  count_is = ap (λ (s : State). s.corners) g.state

  depth_is : d.state.undo_depth ≡ length stack
  depth_is = ap (λ (s : State). s.undo_depth) g.state

  not_marked : d.state.out_of_range ≡ false
  not_marked = ap (λ (s : State). s.out_of_range) g.state ∙ g.unmarked

  held_is : plan_held d ≡ standing (plan_held d₀) corners
  unfolding plan_of
  held_is = (λ t. plan_of (g.state t) d.corners (g.rings t) (g.polygons t)) ∙ (λ t. standing (plan_held d₀) (g.corners_are t))

  counted : corner_count (standing (plan_held d₀) corners) ≡ d.state.corners
  counted =
      ap (λ (l : List ℤ). length l / 2) (sym g.corners_are ∙ ap (λ n. take (2 * n) d.corners) (sym count_is))
      ∙ count_take d.state.corners d.corners g.sound.plan.corners_reach

  corner_is : (i : ℕ) → i < d.state.corners → corner_at corners i ≡ corner_at d.corners i
  corner_is i h = ap (λ l. corner_at l i) (sym g.corners_are) ∙ corner_take d₀.state.corners d.corners i (omega (arith, count_is))

  in_range_lem : plan_in_range (standing (plan_held d₀) corners) ≡ true
  in_range_lem = ap plan_in_range (sym held_is) ∙ g.sound.plan.near

  -- ---- a move
  moved_line : ℕ → Point → Line
  moved_line i place = accept (put_corner corners i place) (pushed (is_recorded (corner_at corners i) place) (entry_of corners i) stack)

  move_rule : (i : ℕ) (place : Point) → model_call (plan_held d₀) (lent d₀) (record { corners = corners; stack = stack }) (Move i place) ≡ line_of (early (Move i place) d) (record { corners = corners; stack = stack }) (moved_line i place)
  unfolding model_call moved_line line_of
  move_rule i place = go (dec_lt i d.state.corners)
    where
      m : Model
      m = record { corners = corners; stack = stack }

      l : Line
      l = accept (put_corner corners i place) (pushed (is_recorded (corner_at corners i) place) (entry_of corners i) stack)

      full : Bool
      full = is_recorded (corner_at corners i) place && is_full (lent d₀) (length stack)

      early_as : Bool → ℕ → Point → ℕ → ℕ → Early
      early_as marked n old room depth = cond marked (refusing PlanOutOfRange) (cond (leb n i) (refusing NoSuchCorner) (cond (in_range place) (cond (is_recorded old place && is_full room depth) (refusing UndoFull) Open) (refusing PlaceOutOfRange)))

      go : Dec (i < d.state.corners) → cond (leb (corner_count (standing (plan_held d₀) corners)) i) (refuse m NoSuchCorner) (cond (in_range place) (cond full (refuse m UndoFull) l) (refuse m PlaceOutOfRange)) ≡ line_of (early (Move i place) d) m l
      go (yes h) =
          rule (leb (corner_count (standing (plan_held d₀) corners)) i) (in_range place) full m l
          ∙ (λ t. line_of (early_as (sym not_marked t) (counted t) (corner_is i h t) (sym g.room t) (sym depth_is t)) m l)
      go (no h) =
          ap (λ b. cond b (refuse m NoSuchCorner) (cond (in_range place) (cond full (refuse m UndoFull) l) (refuse m PlaceOutOfRange))) (ap (λ n. leb n i) counted ∙ le-leb d.state.corners i (omega arith))
          ∙ sym ((λ t. line_of (cond (not_marked t) (refusing PlanOutOfRange) (cond (le-leb d.state.corners i (omega arith) t) (refusing NoSuchCorner) (cond (in_range place) (cond (is_recorded (corner_at d.corners i) place && is_full (length d.undo) d.state.undo_depth) (refusing UndoFull) Open) (refusing PlaceOutOfRange)))) m l))

  -- the frame, whether the move is recorded or not
  state_kept : (recorded : Bool) → moved_state recorded d.state ≡ at_depth d.state (moved_state recorded d.state).undo_depth
  state_kept true = refl
  state_kept false = refl

  undo_long : (recorded : Bool) (entry : Entry) → length (moved_undo recorded d.state.undo_depth entry d.undo) ≡ length d.undo
  undo_long true entry = length-set d.undo d.state.undo_depth (undo_row entry)
  undo_long false entry = refl

  undo_other : (recorded : Bool) (entry : Entry) (j : ℕ) → (j ≡ d.state.undo_depth → ⊥) → get_or (moved_undo recorded d.state.undo_depth entry d.undo) j [] ≡ get_or d.undo j []
  undo_other true entry j n = get_or-set_other d.undo d.state.undo_depth j (undo_row entry) [] n
  undo_other false entry j n = refl

  module _ (a : Answer) (d' : Prepared) (i : ℕ) (place : Point) (o : early (Move i place) d ≡ Open) (w : Moves i place d a d') where
    below : i < d.state.corners
    below = (open_move d.state (length d.undo) (is_recorded (corner_at d.corners i) place) i place o).corner

    moved_framed : Framed (Move i place) d a d'
    moved_framed = record {
      allowed = record {
        state = w.state ∙ state_kept (is_recorded (corner_at d.corners i) place) ∙ (λ t. at_depth d.state (sym w.state t).undo_depth);
        rings = w.corrected.rings;
        polygons = w.corrected.polygons;
        parts = w.corrected.parts;
        edges = w.corrected.edges;
        corners_long = ap length w.corrected.corners ∙ put_length d.corners i place;
        corners = λ j x y. ap (λ (l : List ℤ). get_or l j (pos 0)) w.corrected.corners ∙ put_other d.corners i place j x y;
        undo_long = ap length w.undo ∙ undo_long (is_recorded (corner_at d.corners i) place) (entry_of d.corners i);
        undo = λ j x. ap (λ (l : List (List ℤ)). get_or l j []) w.undo ∙ undo_other (is_recorded (corner_at d.corners i) place) (entry_of d.corners i) j x;
        boxes_long = w.corrected.boxes_long;
        boxes = w.corrected.boxes;
      };
      refused = λ refusal e. absurd (accepted_refused refusal (sym w.answer ∙ e));
    }

    moved_corners : take (2 * d₀.state.corners) d'.corners ≡ put_corner corners i place
    moved_corners = ap (take (2 * d₀.state.corners)) w.corrected.corners ∙ put_take d₀.state.corners d.corners i place (omega (arith, below, count_is)) ∙ ap (λ (l : List ℤ). put_corner l i place) g.corners_are

    moved_after : drop (2 * d₀.state.corners) d'.corners ≡ drop (2 * d₀.state.corners) d₀.corners
    moved_after = ap (drop (2 * d₀.state.corners)) w.corrected.corners ∙ put_drop d₀.state.corners d.corners i place (omega (arith, below, count_is)) ∙ g.corners_beyond

    moved_beyond : (p : ℕ) → node_count d₀.state.corners ≤ p → get_or d'.boxes p [] ≡ get_or d₀.boxes p []
    moved_beyond p h = w.corrected.boxes p (λ above. let u = above.node in let e = ap node_count count_is in omega arith) ∙ g.beyond p h

    moved_agrees : (recorded : Bool) → is_recorded (corner_at d.corners i) place ≡ recorded → Agrees d₀ (put_corner corners i place) (pushed recorded (entry_of d.corners i) stack) d'
    unfolding Stacked unwound
    moved_agrees true e =
        let undo_is = w.undo ∙ ap (λ r. moved_undo r d.state.undo_depth (entry_of d.corners i) d.undo) e in
        let row = undo_row (entry_of d.corners i) in
        let room = (open_move d.state (length d.undo) (is_recorded (corner_at d.corners i) place) i place o).room e in
        record {
          sound = w.corrected.sound;
          unmarked = g.unmarked;
          state = w.state ∙ ap (λ r. moved_state r d.state) e ∙ (λ t. at_depth (g.state t) ((add-one d.state.undo_depth ∙ ap suc depth_is) t));
          rings = w.corrected.rings ∙ g.rings;
          polygons = w.corrected.polygons ∙ g.polygons;
          parts = w.corrected.parts ∙ g.parts;
          edges = w.corrected.edges ∙ g.edges;
          room = ap length undo_is ∙ length-set d.undo d.state.undo_depth row ∙ g.room;
          corners_are = moved_corners;
          corners_beyond = moved_after;
          stacked = (
            (λ t. get_or (undo_is t) (sym depth_is t) []) ∙ get_or-set_same d.undo d.state.undo_depth row [] room,
            subst (λ (l : List (List ℤ)). Stacked l stack) (sym undo_is) (stacked_set d.undo d.state.undo_depth row stack (let k = depth_is in omega arith) g.stacked),
          );
          unwinds = ap (λ (l : List ℤ). unwound (put_back l (entry_of d.corners i)) stack) w.corrected.corners ∙ ap (λ (l : List ℤ). unwound l stack) (put_back_lem d.corners i place) ∙ g.unwinds;
          boxes_long = w.corrected.boxes_long ∙ g.boxes_long;
          beyond = moved_beyond;
        }
    moved_agrees false e =
        let undo_is = w.undo ∙ ap (λ r. moved_undo r d.state.undo_depth (entry_of d.corners i) d.undo) e in
        record {
          sound = w.corrected.sound;
          unmarked = g.unmarked;
          state = w.state ∙ ap (λ r. moved_state r d.state) e ∙ g.state;
          rings = w.corrected.rings ∙ g.rings;
          polygons = w.corrected.polygons ∙ g.polygons;
          parts = w.corrected.parts ∙ g.parts;
          edges = w.corrected.edges ∙ g.edges;
          room = ap length undo_is ∙ g.room;
          corners_are = moved_corners;
          corners_beyond = moved_after;
          stacked = subst (λ (l : List (List ℤ)). Stacked l stack) (sym undo_is) g.stacked;
          unwinds = ap (λ (l : List ℤ). unwound l stack) (w.corrected.corners ∙ ap (put_corner d.corners i) (unrecorded_same (corner_at d.corners i) place e) ∙ put_same d.corners i) ∙ g.unwinds;
          boxes_long = w.corrected.boxes_long ∙ g.boxes_long;
          beyond = moved_beyond;
        }

    -- by the model's own corners
    moved_on : Agrees d₀ (put_corner corners i place) (pushed (is_recorded (corner_at corners i) place) (entry_of corners i) stack) d'
    moved_on =
        subst (λ (old : Point). Agrees d₀ (put_corner corners i place) (pushed (is_recorded old place) (record { corner = i; place = old }) stack) d') (sym (corner_is i below))
        (moved_agrees (is_recorded (corner_at d.corners i) place) refl)

move_follows : (d₀ : Prepared) (m : Model) (d : Prepared) → AgreesWith d₀ m d → (a : Answer) (d' : Prepared) (i : ℕ) (place : Point) → Step (Move i place) d a d' → Follows d₀ m (Move i place) d a d'
unfolding line_of moved_line
move_follows d₀ m d g a d' i place s = go (early (Move i place) d) refl
  where
    line : Line
    line = moved_line d₀ m.corners m.stack d g i place

    go : (e : Early) → early (Move i place) d ≡ e → Follows d₀ m (Move i place) d a d'
    go Open o =
        let w = s.does g.sound o in
        let q = move_rule d₀ m.corners m.stack d g i place ∙ ap (λ (e : Early). line_of e m line) o in
        record {
          answer = w.answer ∙ sym (ap (λ (l : Line). l.answer) q);
          agrees = subst (λ (l : Line). AgreesWith d₀ l.left d') (sym q) (moved_on d₀ m.corners m.stack d g a d' i place o w);
          framed = moved_framed d₀ m.corners m.stack d g a d' i place o w;
        }
    go (Settled said) o =
        let q = move_rule d₀ m.corners m.stack d g i place ∙ ap (λ (e : Early). line_of e m line) o in
        still d₀ m (Move i place) d a d' said g s q (s.settled said o).0 (s.settled said o).1

-- ---- an undo
module _ (d₀ : Prepared) (corners : List ℤ) (top : Entry) (rest : List Entry) (d : Prepared) (g : Agrees d₀ corners (top ∷ rest) d) (a : Answer) (d' : Prepared) (w : TakesBack d a d') where
  depth_less : d.state.undo_depth - 1 ≡ length rest
  depth_less = let k = depth_is d₀ corners (top ∷ rest) d g in omega arith

  latest_is : latest d ≡ top
  unfolding Stacked
  latest_is = ap entry_in (ap (λ k. get_or d.undo k []) depth_less ∙ g.stacked.0)

  top_below : top.corner < d.state.corners
  top_below =
      let k = depth_is d₀ corners (top ∷ rest) d g in
      subst (λ (e : Entry). e.corner < d.state.corners) latest_is (g.sound.records.corner (d.state.undo_depth - 1) (omega arith))

  taken_corners : d'.corners ≡ put_back d.corners top
  taken_corners = w.corrected.corners ∙ ap (put_back d.corners) latest_is

  taken_agrees : Agrees d₀ (put_back corners top) rest d'
  unfolding Stacked unwound
  taken_agrees = record {
    sound = w.corrected.sound;
    unmarked = g.unmarked;
    state = w.state ∙ (λ t. at_depth (g.state t) (depth_less t));
    rings = w.corrected.rings ∙ g.rings;
    polygons = w.corrected.polygons ∙ g.polygons;
    parts = w.corrected.parts ∙ g.parts;
    edges = w.corrected.edges ∙ g.edges;
    room = ap length w.undo ∙ g.room;
    corners_are =
        ap (take (2 * d₀.state.corners)) taken_corners
        ∙ put_take d₀.state.corners d.corners top.corner top.place (omega (arith, top_below, count_is d₀ corners (top ∷ rest) d g))
        ∙ ap (λ (l : List ℤ). put_back l top) g.corners_are;
    corners_beyond =
        ap (drop (2 * d₀.state.corners)) taken_corners
        ∙ put_drop d₀.state.corners d.corners top.corner top.place (omega (arith, top_below, count_is d₀ corners (top ∷ rest) d g))
        ∙ g.corners_beyond;
    stacked = subst (λ (l : List (List ℤ)). Stacked l rest) (sym w.undo) g.stacked.1;
    unwinds = ap (λ (l : List ℤ). unwound l rest) taken_corners ∙ g.unwinds;
    boxes_long = w.corrected.boxes_long ∙ g.boxes_long;
    beyond = λ p h. w.corrected.boxes p (λ above. let u = above.node in let e = ap node_count (count_is d₀ corners (top ∷ rest) d g) in omega arith) ∙ g.beyond p h;
  }

  taken_framed : Framed Undo d a d'
  taken_framed = record {
    allowed = record {
      state = w.state ∙ (λ t. at_depth d.state (sym w.state t).undo_depth);
      rings = w.corrected.rings;
      polygons = w.corrected.polygons;
      parts = w.corrected.parts;
      edges = w.corrected.edges;
      corners_long = ap length w.corrected.corners ∙ put_length d.corners (latest d).corner (latest d).place;
      corners = λ j x y. ap (λ (l : List ℤ). get_or l j (pos 0)) w.corrected.corners ∙ put_other d.corners (latest d).corner (latest d).place j x y;
      undo_long = ap length w.undo;
      undo = λ j x. ap (λ (l : List (List ℤ)). get_or l j []) w.undo;
      boxes_long = w.corrected.boxes_long;
      boxes = w.corrected.boxes;
    };
    refused = λ refusal e. absurd (accepted_refused refusal (sym w.answer ∙ e));
  }

undo_none : (state : State) → state.out_of_range ≡ false → state.undo_depth ≡ 0 → undo_early state ≡ refusing NothingToUndo
undo_none state m h = rw (m, eq-eqb state.undo_depth 0 h)

undo_some : (state : State) (k : ℕ) → state.out_of_range ≡ false → state.undo_depth ≡ suc k → undo_early state ≡ Open
undo_some state k m h = rw (m, ne_eqb state.undo_depth 0 (λ e. omega arith))

undo_follows : (d₀ : Prepared) (corners : List ℤ) (stack : List Entry) (d : Prepared) → Agrees d₀ corners stack d → (a : Answer) (d' : Prepared) → Step Undo d a d' → Follows d₀ (record { corners = corners; stack = stack }) Undo d a d'
unfolding model_call
undo_follows d₀ corners [] d g a d' s =
    let o = undo_none d.state (not_marked d₀ corners [] d g) (depth_is d₀ corners [] d g) in
    still d₀ (record { corners = corners; stack = [] }) Undo d a d' (Refused NothingToUndo) g s refl (s.settled _ o).0 (s.settled _ o).1
undo_follows d₀ corners (top ∷ rest) d g a d' s =
    let w = s.does g.sound (undo_some d.state (length rest) (not_marked d₀ corners (top ∷ rest) d g) (depth_is d₀ corners (top ∷ rest) d g)) in
    record {
      answer = w.answer;
      agrees = taken_agrees d₀ corners top rest d g a d' w;
      framed = taken_framed d₀ corners top rest d g a d' w;
    }

-- ---- look-ups: on a plan in range the range rule is about the point alone
grid_reply : (plan : Plan) (p : Point) → plan_in_range plan ≡ true → plan_reply plan p ≡ cond (in_range p) (kind_reply plan.kind plan p) Outside
unfolding plan_reply
grid_reply plan p near = λ t. cond (near t && in_range p) (kind_reply plan.kind plan p) Outside

half_grid_reply : (plan : Plan) (p : Point) → plan_in_range plan ≡ true → plan_half_reply plan p ≡ cond (in_doubled_range p) (half_reply (rings_of plan) p) Outside
unfolding plan_half_reply
half_grid_reply plan p near = λ t. cond (near t && in_doubled_range p) (half_reply (rings_of plan) p) Outside

module _ (d₀ : Prepared) (m : Model) (d : Prepared) (g : AgreesWith d₀ m d) (a : Answer) (d' : Prepared) where
  -- either grid: what is settled or what the call does, as the model says it
  looked_up : (call : Call) (ranged : Bool) (reply : Location) → early call d ≡ look_early d.state ranged → Step call d a d' → (early call d ≡ Open → a ≡ At (cond ranged reply Outside)) → a ≡ At (cond ranged reply Outside)
  looked_up call ranged reply is_early s does = go ranged refl
    where
      at : (r : Bool) → ranged ≡ r → early call d ≡ cond false (Settled (At Outside)) (cond r Open (Settled (At Outside)))
      at r e = is_early ∙ (λ t. cond (not_marked d₀ m.corners m.stack d g t) (Settled (At Outside)) (cond (e t) Open (Settled (At Outside))))

      go : (r : Bool) → ranged ≡ r → a ≡ At (cond ranged reply Outside)
      go true e = does (at true e)
      go false e = (s.settled (At Outside) (at false e)).0 ∙ ap (λ b. At (cond b reply Outside)) (sym e)

  locate_follows : (p : Point) → Step (Locate p) d a d' → Follows d₀ m (Locate p) d a d'
  unfolding model_call
  locate_follows p s =
      let plan = standing (plan_held d₀) m.corners in
      still d₀ m (Locate p) d a d' (At (model_locate (plan_held d₀) m.corners p)) g s refl
      (looked_up (Locate p) (in_range p) (kind_reply (plan_held d₀).kind plan p) refl s
      (λ o. s.does g.sound o ∙ ap (λ (held : Plan). At (plan_reply held p)) (held_is d₀ m.corners m.stack d g) ∙ ap At (grid_reply plan p (in_range_lem d₀ m.corners m.stack d g))))
      (s.looked refl)

  locate_doubled_follows : (p : Point) → Step (LocateDoubled p) d a d' → Follows d₀ m (LocateDoubled p) d a d'
  unfolding model_call
  locate_doubled_follows p s =
      let plan = standing (plan_held d₀) m.corners in
      still d₀ m (LocateDoubled p) d a d' (At (model_locate_doubled (plan_held d₀) m.corners p)) g s refl
      (looked_up (LocateDoubled p) (in_doubled_range p) (half_reply (rings_of plan) p) refl s
      (λ o. s.does g.sound o ∙ ap (λ (held : Plan). At (plan_half_reply held p)) (held_is d₀ m.corners m.stack d g) ∙ ap At (half_grid_reply plan p (in_range_lem d₀ m.corners m.stack d g))))
      (s.looked refl)

follows : (d₀ : Prepared) (m : Model) (call : Call) (d : Prepared) → AgreesWith d₀ m d → (a : Answer) (d' : Prepared) → Step call d a d' → Follows d₀ m call d a d'
follows d₀ m (Move i place) d g a d' s = move_follows d₀ m d g a d' i place s
follows d₀ m Undo d g a d' s = undo_follows d₀ m.corners m.stack d g a d' s
follows d₀ m (Locate p) d g a d' s = locate_follows d₀ m d g a d' p s
follows d₀ m (LocateDoubled p) d g a d' s = locate_doubled_follows d₀ m d g a d' p s

-- ---- every list
record Followed (d₀ : Prepared) (m : Model) (d : Prepared) (turns : List Turn) : Type 0 where
  answers : answers_of turns ≡ answers_from (plan_held d₀) (lent d₀) m (calls_of turns)
  agrees : AgreesWith d₀ (model_from (plan_held d₀) (lent d₀) m (calls_of turns)) (end_of d turns)
  frames : Frames d turns

run_follows : (d₀ : Prepared) (turns : List Turn) (m : Model) (d : Prepared) → AgreesWith d₀ m d → Run d turns → Followed d₀ m d turns
unfolding Run end_of Frames answers_from model_from
run_follows d₀ [] m d g r = record { answers = refl; agrees = g; frames = tt }
run_follows d₀ (t ∷ turns) m d g r =
    let f = follows d₀ m t.call d g t.answer t.left r.0 in
    let ih = run_follows d₀ turns (model_call (plan_held d₀) (lent d₀) m t.call).left t.left f.agrees r.1 in
    record {
      answers = λ j. f.answer j ∷ ih.answers j;
      agrees = ih.agrees;
      frames = (f.framed, ih.frames);
    }

-- a first part of a run is a run
pub run_take : (d : Prepared) (turns : List Turn) (k : ℕ) → Run d turns → Run d (take k turns)
unfolding Run
run_take d turns zero r = tt
run_take d [] (suc k) r = tt
run_take d (t ∷ turns) (suc k) r = (r.0, run_take t.left turns k r.1)

-- with nothing on the stack all is as first prepared: equal corners, edges and parts have one set of smallest boxes
as_first : (d₀ : Prepared) → Fresh d₀ → (corners : List ℤ) (stack : List Entry) (d : Prepared) → Agrees d₀ corners stack d → stack ≡ [] → AsFirst d₀ d
unfolding unwound
as_first d₀ f corners stack d g e = record {
  state = g.state ∙ (λ t. at_depth d₀.state ((ap length e ∙ sym f.nothing) t));
  corners = same;
  rings = g.rings;
  polygons = g.polygons;
  boxes = ext_get_or [] d.boxes d₀.boxes g.boxes_long (λ p h. row p (dec_lt p (node_count d₀.state.corners)));
  parts = g.parts;
  edges = g.edges;
}
  where
    same : d.corners ≡ d₀.corners
    same = ap (unwound d.corners) (sym e) ∙ g.unwinds

    smallest : (p : ℕ) → p < node_count d₀.state.corners → Smallest d₀.corners d₀.rings d₀.edges d₀.parts d.boxes p
    smallest p h =
        transport (λ t. Smallest (same t) (g.rings t) (g.edges t) (g.parts t) d.boxes p)
        (g.sound.index.smallest p (subst (λ (n : ℕ). p < node_count n) (sym (count_is d₀ corners stack d g)) h))

    row : (p : ℕ) → Dec (p < node_count d₀.state.corners) → get_or d.boxes p [] ≡ get_or d₀.boxes p []
    row p (yes h) = smallest_one d₀.corners d₀.rings d₀.edges d₀.parts d.boxes d₀.boxes p (smallest p h) (f.sound.index.smallest p h)
    row p (no h) = g.beyond p (omega arith)

-- what is left beside corners and boxes
left_over : (d₀ : Prepared) (corners : List ℤ) (stack : List Entry) (d : Prepared) → Agrees d₀ corners stack d → Leaves d₀ stack d
left_over d₀ corners stack d g = record {
  state = g.state;
  records = g.stacked;
  undo_long = g.room;
  rings = g.rings;
  polygons = g.polygons;
  parts = g.parts;
  edges = g.edges;
  corners_beyond = g.corners_beyond;
  boxes_long = g.boxes_long;
  boxes_beyond = g.beyond;
}

-- demand 3
pub demand : (d : Prepared) (turns : List Turn) → Fresh d → Run d turns → Demand d turns
demand d turns f r =
    let w = run_follows d turns (opened (plan_held d)) d (start d f) r in
    record {
      answers = w.answers;
      corners = held_is d _ _ (end_of d turns) w.agrees;
      sound = w.agrees.sound;
      leaves = left_over d _ _ (end_of d turns) w.agrees;
      frames = w.frames;
      undone = λ k e.
          let v = run_follows d (take k turns) (opened (plan_held d)) d (start d f) (run_take d turns k r) in
          as_first d f _ _ (end_of d (take k turns)) v.agrees e;
    }

-- and so of every first part of the list
pub demand_so_far : (d : Prepared) (turns : List Turn) → Fresh d → Run d turns → (k : ℕ) → Demand d (take k turns)
demand_so_far d turns f r k = demand d (take k turns) f (run_take d turns k r)
