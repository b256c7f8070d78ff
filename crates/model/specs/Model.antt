-- Document 01's correction book: a function of the plan, the undo table's lent length and the calls alone. The undo stack is its pile.
use Rattle.std.specs.Prelude.{Bool, true, false, cond, ◌&&◌, List, [], ◌∷◌, ℕ, leb, ℤ, length}
use Rattle.geom.specs.declared.Point.{Point}
use Rattle.geom.specs.Range.{in_range, in_doubled_range}
use Rattle.rules.specs.declared.Location.{Location}
use Rattle.rules.specs.declared.Location.TheVariants.{Outside}
use Rattle.rules.specs.declared.Refusal.{Refusal}
use Rattle.rules.specs.declared.Refusal.TheVariants.{NoSuchCorner, PlaceOutOfRange, UndoFull, NothingToUndo}
use Rattle.rules.specs.Plans.{Plan, corner_at, corner_count, rings_of, kind_reply}
use Rattle.rules.specs.Replies.{half_reply}
use Rattle.model.specs.declared.Answer.{Answer}
use Rattle.model.specs.declared.Answer.TheVariants.{At, Accepted, Refused}
use Rattle.model.specs.declared.Call.{Call}
use Rattle.model.specs.declared.Call.TheVariants.{Move, Undo, Locate, LocateDoubled}
use Rattle.model.specs.Entries.{Entry, entry_of, put_corner, put_back, is_recorded, is_full}

-- what it holds: the plan's corners as they stand, and the undo stack, top first
pub record Model : Type 0 where
  pub corners : List ℤ
  pub stack : List Entry

-- what it says of one call, and what it then holds
pub record Line : Type 0 where
  pub answer : Answer
  pub left : Model

-- corners in the plan's rings
abbrev pub standing : Plan → List ℤ → Plan
standing plan corners = record { kind = plan.kind; coordinates = corners; lengths = plan.lengths; counts = plan.counts }

-- a refused call changes neither
abbrev pub refuse : Model → Refusal → Line
refuse m refusal = record { answer = Refused refusal; left = m }

abbrev pub accept : List ℤ → List Entry → Line
accept corners stack = record { answer = Accepted; left = record { corners = corners; stack = stack } }

-- an entry goes on top where the move is recorded
abbrev pub pushed : Bool → Entry → List Entry → List Entry
pushed true entry stack = entry ∷ stack
pushed false entry stack = stack

-- 5 if there is no corner i, 6 if the new place is out of range, 13 if the move is recorded and the stack full; else i and the old place
-- go on top, and corner i takes the new place
abbrev pub model_move : Plan → ℕ → Model → ℕ → Point → Line
model_move plan lent m i place =
    cond (leb (corner_count (standing plan m.corners)) i) (refuse m NoSuchCorner)
    (cond (in_range place)
    (cond (is_recorded (corner_at m.corners i) place && is_full lent (length m.stack)) (refuse m UndoFull)
    (accept (put_corner m.corners i place) (pushed (is_recorded (corner_at m.corners i) place) (entry_of m.corners i) m.stack)))
    (refuse m PlaceOutOfRange))

-- 14 if the stack is empty; else the top entry comes off, and its corner takes that place back
abbrev pub model_undo : List ℤ → List Entry → Line
model_undo corners [] = refuse (record { corners = corners; stack = [] }) NothingToUndo
model_undo corners (top ∷ rest) = accept (put_back corners top) rest

-- outside if the point is out of range, else the reply of items 3 and 4
abbrev pub model_locate : Plan → List ℤ → Point → Location
model_locate plan corners p = cond (in_range p) (kind_reply plan.kind (standing plan corners) p) Outside

-- the same by item 7 on the half-grid
abbrev pub model_locate_doubled : Plan → List ℤ → Point → Location
model_locate_doubled plan corners p = cond (in_doubled_range p) (half_reply (rings_of (standing plan corners)) p) Outside

unfoldable pub model_call : Plan → ℕ → Model → Call → Line
model_call plan lent m (Move i place) = model_move plan lent m i place
model_call plan lent m Undo = model_undo m.corners m.stack
model_call plan lent m (Locate p) = record { answer = At (model_locate plan m.corners p); left = m }
model_call plan lent m (LocateDoubled p) = record { answer = At (model_locate_doubled plan m.corners p); left = m }

-- ---- a list of calls: the answers, and what the model holds at its end
unfoldable pub answers_from : Plan → ℕ → Model → List Call → List Answer
answers_from plan lent m [] = []
answers_from plan lent m (call ∷ calls) = (model_call plan lent m call).answer ∷ answers_from plan lent (model_call plan lent m call).left calls

unfoldable pub model_from : Plan → ℕ → Model → List Call → Model
model_from plan lent m [] = m
model_from plan lent m (call ∷ calls) = model_from plan lent (model_call plan lent m call).left calls

-- it starts with the plan's corners and an empty stack
abbrev pub opened : Plan → Model
opened plan = record { corners = plan.coordinates; stack = [] }

abbrev pub model_answers : Plan → ℕ → List Call → List Answer
model_answers plan lent calls = answers_from plan lent (opened plan) calls

abbrev pub model_after : Plan → ℕ → List Call → Model
model_after plan lent calls = model_from plan lent (opened plan) calls
