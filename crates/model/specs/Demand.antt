-- Demand 3: one claim about a whole list of calls, refused ones included (document 01, "The correction book").
use Rattle.std.specs.Prelude.{◌≡◌, false, List, [], ◌∷◌, map, ℕ, ◌+◌, ◌-◌, ◌*◌, ◌≤◌, ℤ, pos, length, get_or, take, drop}
use Rattle.rules.specs.declared.Location.TheVariants.{Outside}
use Rattle.rules.specs.declared.Refusal.{Refusal}
use Rattle.rules.specs.declared.Refusal.TheVariants.{PlanOutOfRange}
use Rattle.rules.specs.Nodes.{node_count}
use Rattle.model.specs.declared.Answer.{Answer}
use Rattle.model.specs.declared.Answer.TheVariants.{At, Refused}
use Rattle.model.specs.declared.Call.{Call}
use Rattle.model.specs.declared.Call.TheVariants.{Move, Undo, Locate, LocateDoubled}
use Rattle.model.specs.Entries.{Entry, undo_row}
use Rattle.model.specs.Model.{standing, model_answers, model_after}
use Rattle.model.specs.Prepared.{Prepared, plan_held, Sound, Above}
use Rattle.model.specs.Steps.{at_depth, latest, Step}

-- ---- a list of calls, one after another

-- one call of the list: which it was, what it answered, and what it left
pub record Turn : Type 0 where
  pub call : Call
  pub answer : Answer
  pub left : Prepared

abbrev pub calls_of : List Turn → List Call
calls_of turns = map (λ t. t.call) turns

abbrev pub answers_of : List Turn → List Answer
answers_of turns = map (λ t. t.answer) turns

-- each call is given the tables and the state that the last one left, and nobody else writes them
unfoldable pub Run : Prepared → List Turn → Type 0
Run d [] = Unit {0}
Run d (t ∷ turns) = Step t.call d t.answer t.left × Run t.left turns

-- what the list leaves
unfoldable pub end_of : Prepared → List Turn → Prepared
end_of d [] = d
end_of d (t ∷ turns) = end_of t.left turns

-- ---- what a call may change

-- only corner i, at most undo record k, boxes above the corner's edges, and the depth
pub record Changes (i k : ℕ) (d d' : Prepared) : Type 0 where
  pub state : d'.state ≡ at_depth d.state d'.state.undo_depth
  pub rings : d'.rings ≡ d.rings
  pub polygons : d'.polygons ≡ d.polygons
  pub parts : d'.parts ≡ d.parts
  pub edges : d'.edges ≡ d.edges
  pub corners_long : length d'.corners ≡ length d.corners
  pub corners : (j : ℕ) → (j ≡ 2 * i → ⊥) → (j ≡ 2 * i + 1 → ⊥) → get_or d'.corners j (pos 0) ≡ get_or d.corners j (pos 0)
  pub undo_long : length d'.undo ≡ length d.undo
  pub undo : (j : ℕ) → (j ≡ k → ⊥) → get_or d'.undo j [] ≡ get_or d.undo j []
  pub boxes_long : length d'.boxes ≡ length d.boxes
  pub boxes : (p : ℕ) → (Above d i p → ⊥) → get_or d'.boxes p [] ≡ get_or d.boxes p []

-- a move changes its corner and the record that it makes, an undo the corner and the record that it takes back, a look-up nothing
abbrev pub Allowed : Call → Prepared → Prepared → Type 0
Allowed (Move i place) d d' = Changes i d.state.undo_depth d d'
Allowed Undo d d' = Changes (latest d).corner (d.state.undo_depth - 1) d d'
Allowed (Locate p) d d' = d' ≡ d
Allowed (LocateDoubled p) d d' = d' ≡ d

-- and a refused call nothing
pub record Framed (call : Call) (d : Prepared) (a : Answer) (d' : Prepared) : Type 0 where
  pub allowed : Allowed call d d'
  pub refused : (refusal : Refusal) → a ≡ Refused refusal → d' ≡ d

unfoldable pub Frames : Prepared → List Turn → Type 0
Frames d [] = Unit {0}
Frames d (t ∷ turns) = Framed t.call d t.answer t.left × Frames t.left turns

-- ---- the claim

-- a plan just prepared in range with nothing to undo; of the undo table nothing else is said
pub record Fresh (d : Prepared) : Type 0 where
  pub sound : Sound d
  pub unmarked : d.state.out_of_range ≡ false
  pub nothing : d.state.undo_depth ≡ 0

-- as first prepared: corners, edge order and boxes, and all else but unused rows of the undo table, each table whole
pub record AsFirst (d d' : Prepared) : Type 0 where
  pub state : d'.state ≡ d.state
  pub corners : d'.corners ≡ d.corners
  pub rings : d'.rings ≡ d.rings
  pub polygons : d'.polygons ≡ d.polygons
  pub boxes : d'.boxes ≡ d.boxes
  pub parts : d'.parts ≡ d.parts
  pub edges : d'.edges ≡ d.edges

-- the undo table's lent length in records
abbrev pub lent : Prepared → ℕ
lent d = length d.undo

-- the records below the depth are the stack's entries, its top last
unfoldable pub Stacked : List (List ℤ) → List Entry → Type 0
Stacked undo [] = Unit {0}
Stacked undo (entry ∷ rest) = (get_or undo (length rest) [] ≡ undo_row entry) × Stacked undo rest

-- what is left beside corners and boxes, with this stack: the depth is how many entries it has, they stand in the undo table, and all else
-- is as it was, entries beyond the plan's too
pub record Leaves (d : Prepared) (stack : List Entry) (d' : Prepared) : Type 0 where
  pub state : d'.state ≡ at_depth d.state (length stack)
  pub records : Stacked d'.undo stack
  pub undo_long : length d'.undo ≡ length d.undo
  pub rings : d'.rings ≡ d.rings
  pub polygons : d'.polygons ≡ d.polygons
  pub parts : d'.parts ≡ d.parts
  pub edges : d'.edges ≡ d.edges
  pub corners_beyond : drop (2 * d.state.corners) d'.corners ≡ drop (2 * d.state.corners) d.corners
  pub boxes_long : length d'.boxes ≡ length d.boxes
  pub boxes_beyond : (p : ℕ) → node_count d.state.corners ≤ p → get_or d'.boxes p [] ≡ get_or d.boxes p []

pub record Demand (d : Prepared) (turns : List Turn) : Type 0 where
  -- every answer in the list is the one that the model gives
  pub answers : answers_of turns ≡ model_answers (plan_held d) (lent d) (calls_of turns)
  -- at the list's end the corners are the model's, in the plan's rings, and the tables sound, each box the smallest round its edges
  pub corners : plan_held (end_of d turns) ≡ standing (plan_held d) (model_after (plan_held d) (lent d) (calls_of turns)).corners
  pub sound : Sound (end_of d turns)
  pub leaves : Leaves d (model_after (plan_held d) (lent d) (calls_of turns)).stack (end_of d turns)
  -- each call changed only what it may
  pub frames : Frames d turns
  -- wherever in the list all moves are undone, all is as first prepared
  pub undone : (k : ℕ) → (model_after (plan_held d) (lent d) (calls_of (take k turns))).stack ≡ [] → AsFirst d (end_of d (take k turns))

-- ---- a marked plan: 12 for moves and undos, outside for look-ups, and nothing changes
abbrev pub marked_answer : Call → Answer
marked_answer (Move i place) = Refused PlanOutOfRange
marked_answer Undo = Refused PlanOutOfRange
marked_answer (Locate p) = At Outside
marked_answer (LocateDoubled p) = At Outside

pub record Untouched (d : Prepared) (turns : List Turn) : Type 0 where
  pub answers : answers_of turns ≡ map marked_answer (calls_of turns)
  pub left : (k : ℕ) → end_of d (take k turns) ≡ d
