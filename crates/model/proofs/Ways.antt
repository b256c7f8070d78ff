-- The ways out of a call as steps, and what is known where nothing is settled early. Assumes nothing.
use Rattle.std.specs.Prelude.{Err, Ok}
use mathlib.Core.Path.{◌≡◌, refl, sym, ap, ◌∙◌, subst}
use mathlib.Core.Bool.{Bool, true, false, cond, ◌&&◌}
use mathlib.Core.Logic.{◌⊎◌, inl, inr}
use Prim.Native.Nat.{ℕ, zero, suc, ◌-◌, ◌<◌}
use native.Mathlib.Omega.{arith}
use borrow.Author.Tests.{leb-false, eqb-false}
use lib.Dec.{leb, eqb}
use lib.ListN.{length}
use Rattle.integers.proofs.Tests.{or_false}
use Rattle.geom.specs.declared.Point.{Point}
use Rattle.geom.specs.Range.{in_range, in_doubled_range}
use Rattle.rules.specs.declared.Location.{Location}
use Rattle.rules.specs.declared.Location.TheVariants.{Outside}
use Rattle.rules.specs.declared.Refusal.{Refusal}
use Rattle.rules.specs.declared.Refusal.TheVariants.{NoSuchCorner, PlaceOutOfRange, PlanOutOfRange, UndoFull, NothingToUndo, Unsound}
use Rattle.rules.specs.declared.State.{State}
use Rattle.rules.specs.Plans.{corner_at, plan_reply, plan_half_reply}
use Rattle.model.specs.declared.Answer.{Answer}
use Rattle.model.specs.declared.Answer.TheVariants.{At, Accepted, Refused}
use Rattle.model.specs.declared.Call.{Call}
use Rattle.model.specs.declared.Call.TheVariants.{Move, Undo, Locate, LocateDoubled}
use Rattle.model.specs.Entries.{is_recorded, is_full}
use Rattle.model.specs.Numbers.{answer_of}
use Rattle.model.specs.Prepared.{Prepared, plan_held, Sound}
use Rattle.model.specs.Steps.{refusing, move_early, undo_early, look_early, early, Does, is_look_up, ReachesBeside, Reaches, NamesCorner, Step, Open, Settled}
use Rattle.rules.specs.Answering.{Reply}

-- ---- answers that differ
pub true_false : true ≡ false → ⊥
true_false e = let z : ◌≡◌ {A = ℕ} 0 1 = cc in omega arith

pub accepted_refused : (refusal : Refusal) → Accepted ≡ Refused refusal → ⊥
accepted_refused refusal e = let z : ◌≡◌ {A = ℕ} 0 1 = cc in omega arith

pub at_refused : (location : Location) (refusal : Refusal) → At location ≡ Refused refusal → ⊥
at_refused location refusal e = let z : ◌≡◌ {A = ℕ} 0 1 = cc in omega arith

pub at_accepted : (location : Location) → At location ≡ Accepted → ⊥
at_accepted location e = let z : ◌≡◌ {A = ℕ} 0 1 = cc in omega arith

pub settled_open : (a : Answer) → Settled a ≡ Open → ⊥
settled_open a e = let z : ◌≡◌ {A = ℕ} 0 1 = cc in omega arith

-- ---- whether a move is recorded: every move is. The theorem asks less, that one not recorded would be to the same place
pub always_recorded : (old new : Point) → is_recorded old new ≡ true
unfolding is_recorded
always_recorded old new = refl

pub unrecorded_same : (old new : Point) → is_recorded old new ≡ false → new ≡ old
unrecorded_same old new e = absurd (true_false (sym (always_recorded old new) ∙ e))

-- so what is settled of a move is what `move_early` says
pub early_move : (d : Prepared) (i : ℕ) (place : Point) → early (Move i place) d ≡ move_early d.state (length d.undo) true i place
early_move d i place = ap (λ r. move_early d.state (length d.undo) r i place) (always_recorded (corner_at d.corners i) place)

-- ---- the three kinds of way out

-- settled before a table is read
pub settled_step : (call : Call) (d : Prepared) (a : Answer) → early call d ≡ Settled a → Step call d a d
settled_step call d a p = record {
  settled = λ e q. (cc, refl);
  alone = λ refusal q. inl (p ∙ ap Settled q);
  refused = λ refusal q. refl;
  looked = λ l. refl;
  short = λ q n. absurd (settled_open a (sym p ∙ q));
  stray = λ q n. absurd (settled_open a (sym p ∙ q));
  does = λ s q. absurd (settled_open a (sym p ∙ q));
}

-- 15, which sound tables never get
pub unsound_step : (call : Call) (d : Prepared) → early call d ≡ Open → (Sound d → ⊥) → Step call d (Refused Unsound) d
unsound_step call d p never = record {
  settled = λ e q. absurd (settled_open e (sym q ∙ p));
  alone = λ refusal q. inr (cc);
  refused = λ refusal q. refl;
  looked = λ l. refl;
  short = λ q n. refl;
  stray = λ q n. refl;
  does = λ s q. absurd (never s);
}

-- the call's own work, which no table is too short for and no record is missing for
pub done_step : (call : Call) (d : Prepared) (a : Answer) (d' : Prepared) → early call d ≡ Open → ((refusal : Refusal) → a ≡ Refused refusal → ⊥) → (is_look_up call ≡ true → d' ≡ d) → ((Reaches call d → ⊥) → ⊥) → NamesCorner call d → (Sound d → Does call d a d') → Step call d a d'
done_step call d a d' p r l reaches names w = record {
  settled = λ e q. absurd (settled_open e (sym q ∙ p));
  alone = λ refusal q. absurd (r refusal q);
  refused = λ refusal q. absurd (r refusal q);
  looked = l;
  short = λ q n. absurd (reaches n);
  stray = λ q n. absurd (n names);
  does = λ s q. w s;
}

-- a correction that is accepted
pub accepted_step : (call : Call) (d d' : Prepared) → early call d ≡ Open → is_look_up call ≡ false → Reaches call d → NamesCorner call d → (Sound d → Does call d Accepted d') → Step call d Accepted d'
accepted_step call d d' p l reaches names w = done_step call d Accepted d' p accepted_refused (λ e. absurd (true_false (sym e ∙ l))) (λ n. n reaches) names w

-- ---- sound tables reach, and the record that an undo takes back names a corner
sound_beside : (call : Call) (d : Prepared) → Sound d → ReachesBeside call d
sound_beside (Move i place) d s = s.records.reach
sound_beside Undo d s = s.records.reach
sound_beside (Locate p) d s = s.plan.polygons_reach
sound_beside (LocateDoubled p) d s = s.plan.polygons_reach

pub sound_reaches : (call : Call) (d : Prepared) → Sound d → Reaches call d
sound_reaches call d s = record {
  corners = s.plan.corners_reach;
  rings = s.plan.rings_reach;
  boxes = s.index.boxes_reach;
  parts = s.index.parts_reach;
  edges = s.index.edges_reach;
  beside = sound_beside call d s;
}

pub sound_names : (d : Prepared) → Sound d → 0 < d.state.undo_depth → NamesCorner Undo d
sound_names d s h = let k = d.state.undo_depth - 1 in (omega (arith, s.records.corner k (omega arith)), s.records.place k (omega arith))

-- ---- a look-up: outside before a table is read, else a place or 15, and on sound tables its place

-- a look-up's reply, by what is known of the state and the point
pub record Looked (call : Call) (d : Prepared) (ranged : Bool) (location : Location) (reply : Reply) : Type 0 where
  pub before : (d.state.out_of_range ≡ true) ⊎ (ranged ≡ false) → reply ≡ Ok Outside
  pub only : (refusal : Refusal) → reply ≡ Err refusal → refusal ≡ Unsound
  pub short : d.state.out_of_range ≡ false → ranged ≡ true → (Reaches call d → ⊥) → reply ≡ Err Unsound
  pub exact : Sound d → d.state.out_of_range ≡ false → reply ≡ Ok location

look_early_is : (state : State) (ranged m r : Bool) → state.out_of_range ≡ m → ranged ≡ r → look_early state ranged ≡ cond m (Settled (At Outside)) (cond r Open (Settled (At Outside)))
look_early_is state ranged m r e f = λ t. cond (e t) (Settled (At Outside)) (cond (f t) Open (Settled (At Outside)))

module _ (call : Call) (d : Prepared) (ranged : Bool) (location : Location) (is_early : early call d ≡ look_early d.state ranged) (does : (a : Answer) → a ≡ At location → Does call d a d) where
  looked_step : (reply : Reply) → NamesCorner call d → Looked call d ranged location reply → Step call d (answer_of reply) d
  looked_step reply names l = go d.state.out_of_range ranged refl refl reply refl
    where
      out : early call d ≡ Settled (At Outside) → reply ≡ Ok Outside → Step call d (answer_of reply) d
      out e q = settled_step call d (answer_of reply) (e ∙ ap (λ (v : Reply). Settled (answer_of v)) (sym q))

      go : (m r : Bool) → d.state.out_of_range ≡ m → ranged ≡ r → (s : Reply) → reply ≡ s → Step call d (answer_of reply) d
      go true r e f s q = out (is_early ∙ look_early_is d.state ranged true r e f) (l.before (inl e))
      go false false e f s q = out (is_early ∙ look_early_is d.state ranged false false e f) (l.before (inr f))
      go false true e f (Ok where_it_lies) q =
          done_step call d (answer_of reply) d (is_early ∙ look_early_is d.state ranged false true e f) (λ refusal g. at_refused where_it_lies refusal (sym (ap answer_of q) ∙ g)) (λ g. refl)
          (λ n. at_refused where_it_lies Unsound (sym (ap answer_of q) ∙ ap answer_of (l.short e f n))) names (λ s. does (answer_of reply) (ap answer_of (l.exact s e)))
      go false true e f (Err refusal) q =
          subst (λ (a : Answer). Step call d a d) (sym (ap answer_of q ∙ ap Refused (l.only refusal q)))
          (unsound_step call d (is_early ∙ look_early_is d.state ranged false true e f) (λ s. at_refused location refusal (sym (ap answer_of (l.exact s e)) ∙ ap answer_of q)))

pub locate_step : (d : Prepared) (p : Point) (reply : Reply) → Looked (Locate p) d (in_range p) (plan_reply (plan_held d) p) reply → Step (Locate p) d (answer_of reply) d
locate_step d p reply l = looked_step (Locate p) d (in_range p) (plan_reply (plan_held d) p) refl (λ a e. e) reply tt l

pub locate_doubled_step : (d : Prepared) (p : Point) (reply : Reply) → Looked (LocateDoubled p) d (in_doubled_range p) (plan_half_reply (plan_held d) p) reply → Step (LocateDoubled p) d (answer_of reply) d
locate_doubled_step d p reply l = looked_step (LocateDoubled p) d (in_doubled_range p) (plan_half_reply (plan_held d) p) refl (λ a e. e) reply tt l

-- ---- what a call knows where nothing is settled early
pub record OpenMove (state : State) (lent : ℕ) (recorded : Bool) (i : ℕ) (place : Point) : Type 0 where
  pub unmarked : state.out_of_range ≡ false
  pub corner : i < state.corners
  pub near : in_range place ≡ true
  pub room : recorded ≡ true → state.undo_depth < lent
  pub few : recorded ≡ true → state.undo_depth < 65536

open_tests : (m p q r : Bool) → cond m (refusing PlanOutOfRange) (cond p (refusing NoSuchCorner) (cond q (cond r (refusing UndoFull) Open) (refusing PlaceOutOfRange))) ≡ Open → (m ≡ false) × (p ≡ false) × (q ≡ true) × (r ≡ false)
open_tests true p q r e = absurd (settled_open _ e)
open_tests false true q r e = absurd (settled_open _ e)
open_tests false false false r e = absurd (settled_open _ e)
open_tests false false true true e = absurd (settled_open _ e)
open_tests false false true false e = (refl, refl, refl, refl)

not_full : (recorded full : Bool) → recorded && full ≡ false → recorded ≡ true → full ≡ false
not_full true full e h = e
not_full false full e h = absurd (true_false (sym h))

pub open_move : (state : State) (lent : ℕ) (recorded : Bool) (i : ℕ) (place : Point) → move_early state lent recorded i place ≡ Open → OpenMove state lent recorded i place
open_move state lent recorded i place e =
    let b = open_tests state.out_of_range (leb state.corners i) (in_range place) (recorded && is_full lent state.undo_depth) e in
    record {
      unmarked = b.0;
      corner = leb-false state.corners i b.1;
      near = b.2;
      room = λ h. leb-false lent state.undo_depth (or_false (leb lent state.undo_depth) (leb 65536 state.undo_depth) (not_full recorded _ b.3 h)).0;
      few = λ h. leb-false 65536 state.undo_depth (or_false (leb lent state.undo_depth) (leb 65536 state.undo_depth) (not_full recorded _ b.3 h)).1;
    }

undo_tests : (m p : Bool) → cond m (refusing PlanOutOfRange) (cond p (refusing NothingToUndo) Open) ≡ Open → (m ≡ false) × (p ≡ false)
undo_tests true p e = absurd (settled_open _ e)
undo_tests false true e = absurd (settled_open _ e)
undo_tests false false e = (refl, refl)

pub open_undo : (state : State) → undo_early state ≡ Open → (state.out_of_range ≡ false) × (0 < state.undo_depth)
open_undo state e =
    let b = undo_tests state.out_of_range (eqb state.undo_depth 0) e in
    (b.0, some state.undo_depth (eqb-false state.undo_depth 0 b.1))
  where
    some : (k : ℕ) → (k ≡ 0 → ⊥) → 0 < k
    some zero n = absurd (n refl)
    some (suc k) n = omega arith

look_tests : (m p : Bool) → cond m (Settled (At Outside)) (cond p Open (Settled (At Outside))) ≡ Open → (m ≡ false) × (p ≡ true)
look_tests true p e = absurd (settled_open _ e)
look_tests false false e = absurd (settled_open _ e)
look_tests false true e = (refl, refl)

pub open_look : (state : State) (ranged : Bool) → look_early state ranged ≡ Open → (state.out_of_range ≡ false) × (ranged ≡ true)
open_look state ranged e = look_tests state.out_of_range ranged e
