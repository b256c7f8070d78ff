-- A corner's two edges: where they stand in the edge list, and the ways there (document 01, item 9, "The correction book", refusal 15).
use Rattle.std.specs.Prelude.{◌≡◌, List, ℕ, ◌*◌, ◌≤◌, ◌<◌, ℤ, length, get_or, Result, Ok, Err}
use Rattle.rules.specs.declared.Unsound.{Unsound}
use Rattle.rules.specs.Nodes.{node_count}
use Rattle.boxes.specs.Rings.{next_corner, RingEnds}
use Rattle.index.specs.Sound.{IndexSound}
use Rattle.refit.specs.Paths.{Found}
use Rattle.placing.specs.declared.places.Places.{Places}

-- soundness as far as a correction rests on it: the corners' length, rings and index of a plan under item 1's ceiling
pub record CorrectionSound (n count : ℕ) (corners : List ℤ) (rings : List ℕ) (boxes : List (List ℤ)) (parts : List (List ℕ)) (edges : List ℕ) : Type 0 where
  pub reach : 2 * n ≤ length corners
  pub few : n ≤ 1048576
  pub ends : RingEnds n count rings
  pub index : IndexSound n corners rings boxes parts edges

-- the edge that starts at corner i stands at its place; on a table of ring ends the edge that ends there stands at the other
pub record PlacesFound (n count : ℕ) (corners : List ℤ) (rings : List ℕ) (boxes : List (List ℤ)) (edges : List ℕ) (i : ℕ) (places : Places) : Type 0 where
  pub one : i < n
  pub corners_reach : 2 * n ≤ length corners
  pub boxes_reach : node_count n ≤ length boxes
  pub start_place : places.after < n
  pub stop_place : places.before < n
  pub starts : get_or edges places.after 0 ≡ i
  pub stops : RingEnds n count rings → next_corner rings (get_or edges places.before 0) ≡ i

abbrev pub PlacesSay : ℕ → ℕ → List ℤ → List ℕ → List (List ℤ) → List (List ℕ) → List ℕ → ℕ → Result Places Unsound → Type 0
PlacesSay n count corners rings boxes parts edges i (Ok places) = PlacesFound n count corners rings boxes edges i places
PlacesSay n count corners rings boxes parts edges i (Err _) = CorrectionSound n count corners rings boxes parts edges → i < n → ⊥

-- the ways to a corner's two edges, the one that starts there and the one that ends there
pub record WaysFound (n count : ℕ) (corners : List ℤ) (rings : List ℕ) (boxes : List (List ℤ)) (parts : List (List ℕ)) (edges : List ℕ) (i : ℕ) (path stops path₂ stops₂ : List ℕ) (depth depth₂ : ℕ) : Type 0 where
  pub at : Places
  pub places : PlacesFound n count corners rings boxes edges i at
  pub one : Found n count rings parts edges at.after path stops depth
  pub other : Found n count rings parts edges at.before path₂ stops₂ depth₂
