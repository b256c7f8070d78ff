-- What the calls on a prepared plan promise, between what each is given and what it leaves (document 01, "From the state" and demand 3).
use Rattle.std.specs.Prelude.{◌≡◌, Bool, true, false, cond, ◌&&◌, ◌⊎◌, List, [], ℕ, ◌+◌, ◌-◌, ◌*◌, ◌≤◌, ◌<◌, leb, eqb, ℤ, length, get_or, set, Option, Some, None, Ok, Err}
use Rattle.geom.specs.declared.Point.{Point}
use Rattle.geom.specs.Range.{in_range, in_doubled_range}
use Rattle.rules.specs.declared.Location.TheVariants.{Outside}
use Rattle.rules.specs.declared.Refusal.{Refusal}
use Rattle.rules.specs.declared.Refusal.TheVariants.{NoSuchCorner, PlaceOutOfRange, PlanOutOfRange, UndoFull, NothingToUndo, Unsound}
use Rattle.rules.specs.declared.State.{State}
use Rattle.rules.specs.Answering.{Verdict}
use Rattle.rules.specs.Nodes.{node_count}
use Rattle.rules.specs.Plans.{corner_at, plan_reply, plan_half_reply}
use Rattle.rules.specs.Tables.{polygons_in}
use Rattle.model.specs.declared.Answer.{Answer}
use Rattle.model.specs.declared.Answer.TheVariants.{At, Accepted, Refused}
use Rattle.model.specs.declared.Call.{Call}
use Rattle.model.specs.declared.Call.TheVariants.{Move, Undo, Locate, LocateDoubled}
use Rattle.model.specs.Entries.{Entry, entry_of, entry_in, undo_row, put_corner, put_back, is_recorded, is_full}
use Rattle.model.specs.Prepared.{Prepared, plan_held, Sound, Above}

-- what is settled before a table is read, if anything is
abbrev pub Early : Type 0
Early = Option Answer

pattern abbrev pub Open : Early
Open = None

pattern abbrev pub Settled : Answer → Early
Settled answer = Some answer

-- ---- what is settled before a table is read, in document 01's orders: 12, 5, 6, 13 and 12, 14; a look-up is outside
abbrev pub refusing : Refusal → Early
refusing refusal = Settled (Refused refusal)

-- by a verdict: open where it accepts
abbrev pub settling : Verdict → Early
settling (Ok _) = Open
settling (Err refusal) = refusing refusal

abbrev pub move_early : State → ℕ → Bool → ℕ → Point → Early
move_early state lent recorded i place =
    cond state.out_of_range (refusing PlanOutOfRange)
    (cond (leb state.corners i) (refusing NoSuchCorner)
    (cond (in_range place)
    (cond (recorded && is_full lent state.undo_depth) (refusing UndoFull) Open)
    (refusing PlaceOutOfRange)))

abbrev pub undo_early : State → Early
undo_early state = cond state.out_of_range (refusing PlanOutOfRange) (cond (eqb state.undo_depth 0) (refusing NothingToUndo) Open)

abbrev pub look_early : State → Bool → Early
look_early state ranged = cond state.out_of_range (Settled (At Outside)) (cond ranged Open (Settled (At Outside)))

abbrev pub early : Call → Prepared → Early
early (Move i place) d = move_early d.state (length d.undo) (is_recorded (corner_at d.corners i) place) i place
early Undo d = undo_early d.state
early (Locate p) d = look_early d.state (in_range p)
early (LocateDoubled p) d = look_early d.state (in_doubled_range p)

-- ---- what a call does on sound tables where nothing is settled early

-- corner i corrected: the corner table whole, boxes above the corner's edges at most, and nothing else but the undo table and the depth;
-- the tables are sound again, each box the smallest round its edges
pub record Corrected (i : ℕ) (put : List ℤ) (d d' : Prepared) : Type 0 where
  pub corners : d'.corners ≡ put
  pub rings : d'.rings ≡ d.rings
  pub polygons : d'.polygons ≡ d.polygons
  pub parts : d'.parts ≡ d.parts
  pub edges : d'.edges ≡ d.edges
  pub boxes_long : length d'.boxes ≡ length d.boxes
  pub boxes : (p : ℕ) → (Above d i p → ⊥) → get_or d'.boxes p [] ≡ get_or d.boxes p []
  pub sound : Sound d'

-- the state with another undo depth
abbrev pub at_depth : State → ℕ → State
at_depth state depth =
    record {
      kind = state.kind;
      out_of_range = state.out_of_range;
      corners = state.corners;
      rings = state.rings;
      polygons = state.polygons;
      undo_depth = depth;
    }

-- state and undo table after a move, which is recorded or not
abbrev pub moved_state : Bool → State → State
moved_state true state = at_depth state (state.undo_depth + 1)
moved_state false state = state

abbrev pub moved_undo : Bool → ℕ → Entry → List (List ℤ) → List (List ℤ)
moved_undo true depth entry undo = set undo depth (undo_row entry)
moved_undo false depth entry undo = undo

pub record Moves (i : ℕ) (place : Point) (d : Prepared) (a : Answer) (d' : Prepared) : Type 0 where
  pub answer : a ≡ Accepted
  pub state : d'.state ≡ moved_state (is_recorded (corner_at d.corners i) place) d.state
  pub undo : d'.undo ≡ moved_undo (is_recorded (corner_at d.corners i) place) d.state.undo_depth (entry_of d.corners i) d.undo
  pub corrected : Corrected i (put_corner d.corners i place) d d'

-- the latest record
abbrev pub latest : Prepared → Entry
latest d = entry_in (get_or d.undo (d.state.undo_depth - 1) [])

pub record TakesBack (d : Prepared) (a : Answer) (d' : Prepared) : Type 0 where
  pub answer : a ≡ Accepted
  pub state : d'.state ≡ at_depth d.state (d.state.undo_depth - 1)
  pub undo : d'.undo ≡ d.undo
  pub corrected : Corrected (latest d).corner (put_back d.corners (latest d)) d d'

abbrev pub Does : Call → Prepared → Answer → Prepared → Type 0
Does (Move i place) d a d' = Moves i place d a d'
Does Undo d a d' = TakesBack d a d'
Does (Locate p) d a d' = a ≡ At (plan_reply (plan_held d) p)
Does (LocateDoubled p) d a d' = a ≡ At (plan_half_reply (plan_held d) p)

abbrev pub is_look_up : Call → Bool
is_look_up (Move i place) = false
is_look_up Undo = false
is_look_up (Locate p) = true
is_look_up (LocateDoubled p) = true

-- ---- 15, whatever else the tables hold

-- beside the tables that every call is lent, a correction is lent the undo table, and a look-up the polygons, of which a tree has none
abbrev pub ReachesBeside : Call → Prepared → Type 0
ReachesBeside (Move i place) d = d.state.undo_depth ≤ length d.undo
ReachesBeside Undo d = d.state.undo_depth ≤ length d.undo
ReachesBeside (Locate p) d = polygons_in d.state.kind d.state.polygons ≤ length d.polygons
ReachesBeside (LocateDoubled p) d = polygons_in d.state.kind d.state.polygons ≤ length d.polygons

-- no table that the call is lent is shorter than the state says
pub record Reaches (call : Call) (d : Prepared) : Type 0 where
  pub corners : 2 * d.state.corners ≤ length d.corners
  pub rings : d.state.rings ≤ length d.rings
  pub boxes : node_count d.state.corners ≤ length d.boxes
  pub parts : node_count d.state.corners ≤ length d.parts
  pub edges : d.state.corners ≤ length d.edges
  pub beside : ReachesBeside call d

-- the record that the call takes back names a corner and a place in range; no call but an undo takes one back
abbrev pub NamesCorner : Call → Prepared → Type 0
NamesCorner (Move i place) d = Unit {0}
NamesCorner Undo d = ((latest d).corner < d.state.corners) × (in_range (latest d).place ≡ true)
NamesCorner (Locate p) d = Unit {0}
NamesCorner (LocateDoubled p) d = Unit {0}

-- ---- one call, over all tables at entry and at exit
pub record Step (call : Call) (d : Prepared) (a : Answer) (d' : Prepared) : Type 0 where
  -- what is settled early is the answer, and nothing changes
  pub settled : (e : Answer) → early call d ≡ Settled e → (a ≡ e) × (d' ≡ d)
  -- each number but 15 comes under its condition alone
  pub alone : (refusal : Refusal) → a ≡ Refused refusal → (early call d ≡ refusing refusal) ⊎ (refusal ≡ Unsound)
  -- a refused call changes nothing, and a look-up changes nothing
  pub refused : (refusal : Refusal) → a ≡ Refused refusal → d' ≡ d
  pub looked : is_look_up call ≡ true → d' ≡ d
  -- 15 where nothing is settled early and a table that the call is lent is too short, or the record to take back is no record
  pub short : early call d ≡ Open → (Reaches call d → ⊥) → a ≡ Refused Unsound
  pub stray : early call d ≡ Open → (NamesCorner call d → ⊥) → a ≡ Refused Unsound
  -- on sound tables the call does what it is for, and so never gets 15; where nothing is settled early the plan is not marked
  pub does : Sound d → early call d ≡ Open → Does call d a d'
