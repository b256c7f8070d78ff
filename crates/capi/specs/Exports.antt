-- What the exports over lent tables answer (document 01, items 6 to 9 and 11).
use Rattle.std.specs.Prelude.{◌≡◌, Bool, List, ℕ, ℤ, Err, None, Option, Some, Ok}
use Rattle.geom.specs.declared.Point.{Point}
use Rattle.rules.specs.declared.Kind.{Kind}
use Rattle.rules.specs.declared.Location.{Location}
use Rattle.rules.specs.declared.Refusal.TheVariants.{Unsound}
use Rattle.rules.specs.declared.State.{State}
use Rattle.rules.specs.Numbers.{refusal_number, refusal_detail}
use Rattle.rules.specs.Plans.{Plan}
use Rattle.rules.specs.Tables.{plan_of}
use Rattle.query.specs.Calls.{LookedUp}
use Rattle.prepared.specs.Calls.{Looked}
use Rattle.prepared.specs.Firsts.{points_verdict, first_number, First, found_at, all_outside}
use Rattle.model.specs.declared.Answer.{Answer}
use Rattle.model.specs.declared.Answer as Answer
use Rattle.model.specs.declared.Call.{Call}
use Rattle.model.specs.Prepared.{prepared_of}
use Rattle.model.specs.Steps.{Step}
use Rattle.corrections.specs.Answering.{Correction, answered, state_after}
use Rattle.states.specs.declared.StateNumbers.{StateNumbers}
use Rattle.capi.specs.declared.exports.PrepareAnswer.{PrepareAnswer}
use Rattle.capi.specs.declared.exports.FirstAnswer.{FirstAnswer}
use Rattle.capi.specs.declared.moves.CorrectionAnswer.{CorrectionAnswer}
use Rattle.states.specs.States.{state_named, state_numbers, Replied}
use Rattle.rules.specs.Answering.{Verdict, Accepted}
use Rattle.prepare.specs.Answers.{Preparing, nodes_number}

-- a look-up through the boxes, of a point that is in range or not, and the place that the plan in the tables gives it
abbrev pub LooksUp : (Point → Bool) → (Plan → Point → Location) → StateNumbers → List ℤ → List ℕ → List ℕ → List (List ℤ) → List (List ℕ) → List ℕ → Point → ℤ → Type 0
LooksUp ranged location numbers corners rings polygons boxes parts edges p answer =
    Replied (state_named numbers) (λ s reply. Looked s corners rings polygons boxes parts edges (ranged p) (location (plan_of s corners rings polygons) p) reply) answer

-- the same ring by ring, which is lent neither boxes nor parts nor edges
abbrev pub LooksUpByRings : (Point → Bool) → (Plan → Point → Location) → StateNumbers → List ℤ → List ℕ → List ℕ → Point → ℤ → Type 0
LooksUpByRings ranged location numbers corners rings polygons p answer =
    Replied (state_named numbers) (λ s reply. LookedUp s corners rings polygons (ranged p) (location (plan_of s corners rings polygons) p) reply) answer

-- what a list of points is answered in numbers: the refusal, 1 where a point is not outside, and its place
abbrev pub first_found : First → ℕ
first_found (found_at k) = 1
first_found all_outside = 0
first_found (Err refusal) = 0

abbrev pub first_place : First → ℕ
first_place (found_at k) = k
first_place all_outside = 0
first_place (Err refusal) = 0

abbrev pub first_numbers : First → FirstAnswer
first_numbers first = record { refusal = first_number first; found = first_found first; place = first_place first }

-- "coin list 4, 3, 15": the list's own refusal comes before that of numbers that name no state
abbrev pub unnamed_first : Verdict → First
unnamed_first Accepted = Err Unsound
unnamed_first (Err refusal) = Err refusal

abbrev pub Listed : (Option State) → List ℤ → (State → First → Type 0) → FirstAnswer → Type 0
Listed None points Promised answer = answer ≡ first_numbers (unnamed_first (points_verdict points))
Listed (Some state) points Promised answer = (first : First) × Promised state first × (answer ≡ first_numbers first)

-- the numbers of no state
abbrev pub no_state : StateNumbers
no_state = record { kind = 0; out_of_range = 0; corners = 0; rings = 0; polygons = 0; undo_depth = 0 }

-- what preparing answers in numbers
abbrev pub prepare_numbers : Preparing → PrepareAnswer
prepare_numbers (Ok ready) = record { refusal = 0; table = 0; nodes = nodes_number ready.nodes; state = state_numbers ready.state }
prepare_numbers (Err refusal) = record { refusal = refusal_number refusal; table = refusal_detail refusal; nodes = 0; state = no_state }

-- by what is promised of a plan of this kind; 15, and the tables as they were, where the number names no kind
abbrev pub PrepareSays : (Option Kind) → (Kind → Preparing → Type 0) → Type 0 → PrepareAnswer → Type 0
PrepareSays None Promised Same answer = Same × (answer ≡ prepare_numbers (Err Unsound))
PrepareSays (Some kind) Promised Same answer = (preparing : Preparing) × Promised kind preparing × (answer ≡ prepare_numbers preparing)

-- ---- a move or an undo

-- 0 where it is accepted, or the refusal's number
abbrev pub correction_refusal : Answer → ℕ
correction_refusal (Answer.TheVariants.At location) = 0
correction_refusal Answer.TheVariants.Accepted = 0
correction_refusal (Answer.TheVariants.Refused refusal) = refusal_number refusal

-- what it answers in numbers, with the state that goes with the tables from then on
abbrev pub correction_numbers : State → Correction → CorrectionAnswer
correction_numbers state correction = record { refusal = correction_refusal (answered correction); state = state_numbers (state_after state correction) }

-- by what is promised of a correction from this state; 15, with the tables and the numbers as they were, where the numbers name no state
abbrev pub CorrectionSays : (Option State) → (State → Correction → Type 0) → Type 0 → StateNumbers → CorrectionAnswer → Type 0
CorrectionSays None Promised Same numbers answer = Same × (answer ≡ record { refusal = refusal_number Unsound; state = numbers })
CorrectionSays (Some state) Promised Same numbers answer = (correction : Correction) × Promised state correction × (answer ≡ correction_numbers state correction)

-- the tables that a correction may write
pub record Written : Type 0 where
  pub corners : List ℤ
  pub boxes : List (List ℤ)
  pub undo : List (List ℤ)

-- a move or an undo over lent tables: a step of the model, whatever the polygons are, which it is not lent
abbrev pub Corrects : Call → StateNumbers → List ℤ → List ℕ → List (List ℤ) → List (List ℕ) → List ℕ → List (List ℤ) → List ℤ → List (List ℤ) → List (List ℤ) → CorrectionAnswer → Type 0
Corrects call numbers corners rings boxes parts edges undo corners' boxes' undo' answer =
    CorrectionSays (state_named numbers)
    (λ s correction. ((polygons : List ℕ) → Step call (prepared_of s corners rings polygons boxes parts edges undo) (answered correction) (prepared_of (state_after s correction) corners' rings polygons boxes' parts edges undo')))
    (◌≡◌ {A = Written} (record { corners = corners'; boxes = boxes'; undo = undo' }) (record { corners = corners; boxes = boxes; undo = undo })) numbers answer
