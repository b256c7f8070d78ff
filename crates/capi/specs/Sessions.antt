-- A server that calls nothing but exports: what it keeps of a prepared plan, and its calls one after another (demand 3). A list of points is no
-- call of the correction book; it is lent nothing to write, so it may stand between any two of them.
use Rattle.std.specs.Prelude.{◌≡◌, Bool, ◌⊎◌, List, [], ◌∷◌, map, ℕ, ℤ, pos}
use Rattle.geom.specs.declared.Point.{Point}
use Rattle.geom.specs.Range.{in_range, in_doubled_range}
use Rattle.rules.specs.declared.Location.{Location}
use Rattle.rules.specs.Plans.{Plan, plan_reply, plan_half_reply}
use Rattle.model.specs.declared.Answer.{Answer}
use Rattle.model.specs.declared.Call.{Call}
use Rattle.model.specs.declared.Call.TheVariants.{Move, Undo, Locate, LocateDoubled}
use Rattle.model.specs.Demand.{Turn, calls_of, answers_of, Run, end_of, lent, marked_answer}
use Rattle.model.specs.Model.{model_answers}
use Rattle.model.specs.Numbers.{answer_number}
use Rattle.model.specs.Prepared.{Prepared}
use Rattle.replay.specs.Replays.{Followed}
use Rattle.states.specs.declared.StateNumbers.{StateNumbers}
use Rattle.states.specs.States.{state_numbers}
use Rattle.capi.specs.declared.moves.CorrectionAnswer.{CorrectionAnswer}
use Rattle.capi.specs.Exports.{LooksUp, LooksUpByRings, correction_refusal, Corrects}

-- the state in numbers, as the last call answered it, and the tables
pub record Kept : Type 0 where
  pub numbers : StateNumbers
  pub corners : List ℤ
  pub rings : List ℕ
  pub polygons : List ℕ
  pub boxes : List (List ℤ)
  pub parts : List (List ℕ)
  pub edges : List ℕ
  pub undo : List (List ℤ)

abbrev pub kept_of : Prepared → Kept
kept_of d =
    record {
      numbers = state_numbers d.state;
      corners = d.corners;
      rings = d.rings;
      polygons = d.polygons;
      boxes = d.boxes;
      parts = d.parts;
      edges = d.edges;
      undo = d.undo;
    }

-- ---- one call of an export, by its promise

-- `findspot_move` or `findspot_undo`: the refusal number, and the state that it answered. Tables that it is not lent, or lent to read, are as they were
pub record CorrectionCalled (call : Call) (k : Kept) (number : ℤ) (k' : Kept) : Type 0 where
  pub answer : CorrectionAnswer
  pub promised : Corrects call k.numbers k.corners k.rings k.boxes k.parts k.edges k.undo k'.corners k'.boxes k'.undo answer
  pub number_is : number ≡ pos answer.refusal
  pub numbers_are : k'.numbers ≡ answer.state
  pub rings : k'.rings ≡ k.rings
  pub polygons : k'.polygons ≡ k.polygons
  pub parts : k'.parts ≡ k.parts
  pub edges : k'.edges ≡ k.edges

-- `findspot_locate`, `findspot_locate_doubled` or either of them ring by ring, which are lent nothing to write
pub record LookUpCalled (ranged : Point → Bool) (location : Plan → Point → Location) (p : Point) (k : Kept) (number : ℤ) (k' : Kept) : Type 0 where
  pub promised : LooksUp ranged location k.numbers k.corners k.rings k.polygons k.boxes k.parts k.edges p number
      ⊎ LooksUpByRings ranged location k.numbers k.corners k.rings k.polygons p number
  pub left : k' ≡ k

abbrev pub ExportCalled : Call → Kept → ℤ → Kept → Type 0
ExportCalled (Move i place) k number k' = CorrectionCalled (Move i place) k number k'
ExportCalled Undo k number k' = CorrectionCalled Undo k number k'
ExportCalled (Locate p) k number k' = LookUpCalled in_range plan_reply p k number k'
ExportCalled (LocateDoubled p) k number k' = LookUpCalled in_doubled_range plan_half_reply p k number k'

-- ---- a list of calls, each given the state that the last one answered and the tables that it left

pub record Request : Type 0 where
  pub call : Call
  pub number : ℤ
  pub left : Kept

abbrev pub requested : List Request → List Call
requested requests = map (λ r. r.call) requests

unfoldable pub Session : Kept → List Request → Type 0
Session k [] = Unit {0}
Session k (r ∷ requests) = ExportCalled r.call k r.number r.left × Session r.left requests

unfoldable pub session_end : Kept → List Request → Kept
session_end k [] = k
session_end k (r ∷ requests) = session_end r.left requests

-- ---- its numbers: a correction's refusal, 0 where it is accepted; a look-up's place, or minus its refusal
abbrev pub export_number : Call → Answer → ℤ
export_number (Move i place) a = pos (correction_refusal a)
export_number Undo a = pos (correction_refusal a)
export_number (Locate p) a = answer_number a
export_number (LocateDoubled p) a = answer_number a

unfoldable pub export_numbers : List Call → List Answer → List ℤ
export_numbers [] answers = []
export_numbers (call ∷ calls) [] = []
export_numbers (call ∷ calls) (a ∷ answers) = export_number call a ∷ export_numbers calls answers

-- ---- the claim

-- a session is a run
pub record Served (d : Prepared) (requests : List Request) : Type 0 where
  pub turns : List Turn
  pub run : Run d turns
  pub calls : calls_of turns ≡ requested requests
  pub numbers : map (λ r. r.number) requests ≡ export_numbers (calls_of turns) (answers_of turns)
  pub end : session_end (kept_of d) requests ≡ kept_of (end_of d turns)
  -- after each call the server holds what the turn left
  pub lefts : map (λ (r : Request). r.left) requests ≡ map (λ (t : Turn). kept_of t.left) turns

-- and so, in range, demand 3 holds of it: its numbers are those of the model's answers for the plan handed in
pub record ServerDemand (plan : Plan) (d : Prepared) (requests : List Request) : Type 0 where
  pub served : Served d requests
  pub followed : Followed plan (requested requests) d served.turns (end_of d served.turns)
  pub numbers : map (λ r. r.number) requests ≡ export_numbers (requested requests) (model_answers plan (lent d) (requested requests))

-- on a marked plan: 12 and outside, and nothing changes
pub record ServerMarked (k : Kept) (requests : List Request) : Type 0 where
  pub numbers : map (λ r. r.number) requests ≡ export_numbers (requested requests) (map marked_answer (requested requests))
  pub left : session_end k requests ≡ k
