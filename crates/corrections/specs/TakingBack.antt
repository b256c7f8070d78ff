-- A corner put back at its place by an undo (document 01, item 9, "The correction book").
use Rattle.std.specs.Prelude.{◌≡◌, ◌⊎◌, List, ℕ, ◌-◌, ℤ, Ok, Err}
use Rattle.geom.specs.declared.Point.{Point}
use Rattle.rules.specs.declared.Refusal.TheVariants.{Unsound}
use Rattle.rules.specs.declared.State.{State}
use Rattle.model.specs.Steps.{at_depth}
use Rattle.placing.specs.Places.{MadeAt, Unmade}
use Rattle.corrections.specs.Answering.{Correction}

-- a corner put back at its place: refused as the correction is, or accepted with one undo record fewer
pub record PutBack (state : State) (rings : List ℕ) (parts : List (List ℕ)) (edges : List ℕ) (i : ℕ) (place : Point) (corners : List ℤ) (boxes : List (List ℤ)) (corners' : List ℤ) (boxes' : List (List ℤ)) (r : Correction) : Type 0 where
  pub accepted : r ≡ Ok (at_depth state (state.undo_depth - 1))
  pub old : Point
  pub made : MadeAt state.corners state.rings rings parts edges i place corners boxes corners' boxes' old

pub record NotPutBack (state : State) (rings : List ℕ) (parts : List (List ℕ)) (edges : List ℕ) (i : ℕ) (corners : List ℤ) (boxes : List (List ℤ)) (corners' : List ℤ) (boxes' : List (List ℤ)) (r : Correction) : Type 0 where
  pub is : r ≡ Err Unsound
  pub unmade : Unmade state.corners state.rings rings parts edges i corners boxes corners' boxes'

abbrev pub TakenBack : State → List ℕ → List (List ℕ) → List ℕ → ℕ → Point → List ℤ → List (List ℤ) → List ℤ → List (List ℤ) → Correction → Type 0
TakenBack state rings parts edges i place corners boxes corners' boxes' r =
    PutBack state rings parts edges i place corners boxes corners' boxes' r ⊎ NotPutBack state rings parts edges i corners boxes corners' boxes' r
