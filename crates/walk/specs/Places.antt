-- The place of an edge in the edge list (document 01, item 9, refusal 15).
use Rattle.std.specs.Prelude.{◌≡◌, List, ℕ, ◌*◌, ◌≤◌, ◌<◌, ℤ, length, get_or, Result, Ok, Err}
use Rattle.geom.specs.declared.Rect.{Rect}
use Rattle.rules.specs.declared.Refusal as Refusal
use Rattle.rules.specs.declared.Unsound.{Unsound}
use Rattle.rules.specs.Nodes.{node_count}
use Rattle.rules.specs.Numbers.{refusal_number}
use Rattle.boxes.specs.Boxes.{edge_box}
use Rattle.index.specs.Sound.{IndexSound}
use Rattle.walk.specs.declared.LentPlan.{LentPlan}
use Rattle.walk.specs.Edges.{EdgeSound}
use Rattle.walk.specs.Steps.{WalkSound}

-- 0 for a place, or the refusal
abbrev pub place_number : Result ℕ Unsound → ℕ
place_number (Ok k) = 0
place_number (Err _) = refusal_number Refusal.TheVariants.Unsound

-- the tables as far as the place of edge e rests on them: an edge of the plan, and a sound index over it
pub record PlaceSound (n count : ℕ) (corners : List ℤ) (rings : List ℕ) (boxes : List (List ℤ)) (parts : List (List ℕ)) (edges : List ℕ) (e : ℕ) : Type 0 where
  pub edge : EdgeSound n count corners rings e
  pub walk : WalkSound n corners rings boxes parts edges

-- on any tables edge e stands at place k of the n that the state says; where the index is sound, at no other
pub record StandsAt (n : ℕ) (edges : List ℕ) (e k : ℕ) : Type 0 where
  pub one : e < n
  pub inside : k < n
  pub edge : get_or edges k 0 ≡ e
  pub only : (corners : List ℤ) (rings : List ℕ) (boxes : List (List ℤ)) (parts : List (List ℕ)) → IndexSound n corners rings boxes parts edges → (j : ℕ) → j < n → get_or edges j 0 ≡ e → j ≡ k

-- no table is shorter than the state says: those of the index, and those of the plan
pub record IndexReach (n boxes parts edges : ℕ) : Type 0 where
  pub boxes_reach : node_count n ≤ boxes
  pub parts_reach : node_count n ≤ parts
  pub edges_reach : n ≤ edges

pub record PlanReach (n count corners rings : ℕ) : Type 0 where
  pub corners_reach : 2 * n ≤ corners
  pub rings_reach : count ≤ rings

-- what a place says
pub record PlaceFound (n count : ℕ) (corners : List ℤ) (rings : List ℕ) (boxes : List (List ℤ)) (parts : List (List ℕ)) (edges : List ℕ) (e k : ℕ) : Type 0 where
  pub number : place_number (Ok k) ≡ 0
  pub plan : PlanReach n count (length corners) (length rings)
  pub index : IndexReach n (length boxes) (length parts) (length edges)
  pub stands : StandsAt n edges e k

-- a walk to edge e, whose box is the one wanted
abbrev pub WalkedTo : ℕ → List (List ℤ) → List (List ℕ) → List ℕ → Rect → ℕ → Result ℕ Unsound → Type 0
WalkedTo n boxes parts edges wanted e (Ok k) = IndexReach n (length boxes) (length parts) (length edges) × StandsAt n edges e k
WalkedTo n boxes parts edges wanted e (Err _) =
    (corners : List ℤ) (rings : List ℕ) → WalkSound n corners rings boxes parts edges → e < n → edge_box corners rings e ≡ wanted → ⊥

-- 15: never for an edge of sound tables
pub record PlaceRefused (n count : ℕ) (corners : List ℤ) (rings : List ℕ) (boxes : List (List ℤ)) (parts : List (List ℕ)) (edges : List ℕ) (e : ℕ) : Type 0 where
  pub number : place_number (Err (record {})) ≡ 15
  pub never : PlaceSound n count corners rings boxes parts edges e → ⊥

abbrev pub PlaceSays : ℕ → ℕ → List ℤ → List ℕ → List (List ℤ) → List (List ℕ) → List ℕ → ℕ → Result ℕ Unsound → Type 0
PlaceSays n count corners rings boxes parts edges e (Ok k) = PlaceFound n count corners rings boxes parts edges e k
PlaceSays n count corners rings boxes parts edges e (Err _) = PlaceRefused n count corners rings boxes parts edges e

-- of a plan that is lent
abbrev pub WalkedIn : LentPlan → Rect → ℕ → Result ℕ Unsound → Type 0
WalkedIn plan wanted e r = WalkedTo plan.n plan.boxes.now plan.parts.now plan.edges.now wanted e r

abbrev pub PlaceIn : LentPlan → ℕ → Result ℕ Unsound → Type 0
PlaceIn plan e r = PlaceSays plan.n plan.count plan.corners.now plan.rings.now plan.boxes.now plan.parts.now plan.edges.now e r
