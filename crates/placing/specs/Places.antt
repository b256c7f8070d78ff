-- A corner put at a place, with the boxes above its two edges made anew (document 01, item 9, "The correction book").
use Rattle.std.specs.Prelude.{◌≡◌, List, [], ℕ, ◌+◌, ◌*◌, ◌^◌, ◌≤◌, ◌<◌, ℤ, length, get_or, Result, Ok, Err}
use Rattle.geom.specs.declared.Point.{Point}
use Rattle.rules.specs.declared.Refusal as Refusal
use Rattle.rules.specs.declared.Unsound.{Unsound}
use Rattle.rules.specs.Nodes.{node_count}
use Rattle.rules.specs.Numbers.{refusal_number}
use Rattle.rules.specs.Plans.{corner_at}
use Rattle.index.specs.Parts.{first_at, count_at}
use Rattle.index.specs.Sound.{IndexSound}
use Rattle.refit.specs.Paths.{Fine}
use Rattle.refit.specs.Refits.{refitted}
use Rattle.model.specs.Entries.{put_corner}
use Rattle.model.specs.Prepared.{EdgeOf}
use Rattle.placing.specs.Ways.{CorrectionSound}

-- 0 for a correction that was made, or the refusal
abbrev pub correction_number : Result Point Unsound → ℕ
correction_number (Ok old) = 0
correction_number (Err _) = refusal_number Refusal.TheVariants.Unsound

-- corner i and what is read to refit along two paths are inside their tables
pub record Placeable (n i : ℕ) (corners : List ℤ) (boxes : List (List ℤ)) (parts : List (List ℕ)) (edges path stops path₂ stops₂ : List ℕ) (depth depth₂ : ℕ) : Type 0 where
  pub one : i < n
  pub corners_reach : 2 * n ≤ length corners
  pub boxes_reach : node_count n ≤ length boxes
  pub fine : Fine n parts edges path stops depth
  pub fine₂ : Fine n parts edges path₂ stops₂ depth₂

-- on any tables: the corner stands at its place, and the boxes on the two paths are refitted, one path after the other
pub record Placed (i : ℕ) (place : Point) (corners : List ℤ) (boxes : List (List ℤ)) (parts : List (List ℕ)) (edges path stops path₂ stops₂ : List ℕ) (depth depth₂ : ℕ) (corners' : List ℤ) (boxes' : List (List ℤ)) : Type 0 where
  pub corners_are : corners' ≡ put_corner corners i place
  pub boxes_are : boxes' ≡ refitted corners' (refitted corners' boxes parts edges path stops depth) parts edges path₂ stops₂ depth₂

-- node p has one of corner i's two edges among its edges
pub record AboveEdges (n : ℕ) (rings : List ℕ) (parts : List (List ℕ)) (edges : List ℕ) (i p : ℕ) : Type 0 where
  pub node : p < node_count n
  pub at : ℕ
  pub from : first_at parts p ≤ at
  pub to : at < first_at parts p + count_at parts p
  pub touched : EdgeOf n rings i (get_or edges at 0)

-- no table that a correction is lent is shorter than n corners in `count` rings need
pub record Enough (n count : ℕ) (corners rings boxes parts edges : ℕ) : Type 0 where
  pub corners_reach : 2 * n ≤ corners
  pub rings_reach : count ≤ rings
  pub boxes_reach : node_count n ≤ boxes
  pub parts_reach : node_count n ≤ parts
  pub edges_reach : n ≤ edges

-- a correction that was made: no table is too short, the corner is one of the n and stands at its new place, its old place is told; where
-- the tables were sound they are so again, and only boxes above the corner's edges changed
pub record MadeAt (n count : ℕ) (rings : List ℕ) (parts : List (List ℕ)) (edges : List ℕ) (i : ℕ) (place : Point) (corners : List ℤ) (boxes : List (List ℤ)) (corners' : List ℤ) (boxes' : List (List ℤ)) (old : Point) : Type 0 where
  pub number : correction_number (Ok old) ≡ 0
  pub enough : Enough n count (length corners) (length rings) (length boxes) (length parts) (length edges)
  pub one : i < n
  pub named : i < 2 ^ 63
  pub old_is : old ≡ corner_at corners i
  pub corners_are : corners' ≡ put_corner corners i place
  pub boxes_long : length boxes' ≡ length boxes
  pub sound : CorrectionSound n count corners rings boxes parts edges → IndexSound n corners' rings boxes' parts edges
  pub rest : CorrectionSound n count corners rings boxes parts edges → (p : ℕ) → (AboveEdges n rings parts edges i p → ⊥) → get_or boxes' p [] ≡ get_or boxes p []

-- one that was not, 15: nothing is written, and no sound tables with such a corner get it
pub record Unmade (n count : ℕ) (rings : List ℕ) (parts : List (List ℕ)) (edges : List ℕ) (i : ℕ) (corners : List ℤ) (boxes : List (List ℤ)) (corners' : List ℤ) (boxes' : List (List ℤ)) : Type 0 where
  pub number : correction_number (Err (record {})) ≡ 15
  pub corners_same : corners' ≡ corners
  pub boxes_same : boxes' ≡ boxes
  pub never : CorrectionSound n count corners rings boxes parts edges → i < n → ⊥

abbrev pub CorrectionSays : ℕ → ℕ → List ℕ → List (List ℕ) → List ℕ → ℕ → Point → List ℤ → List (List ℤ) → List ℤ → List (List ℤ) → Result Point Unsound → Type 0
CorrectionSays n count rings parts edges i place corners boxes corners' boxes' (Ok old) = MadeAt n count rings parts edges i place corners boxes corners' boxes' old
CorrectionSays n count rings parts edges i place corners boxes corners' boxes' (Err _) = Unmade n count rings parts edges i corners boxes corners' boxes'
