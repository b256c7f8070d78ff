-- The latest undo record, on any undo table (document 01, item 9, refusal 15).
use Rattle.std.specs.Prelude.{◌≡◌, true, List, [], ℕ, ◌-◌, ◌≤◌, ◌<◌, ℤ, length, get_or, Result, Ok, Err}
use Rattle.geom.specs.declared.Point.{Point}
use Rattle.geom.specs.Range.{in_range}
use Rattle.rules.specs.declared.State.{State}
use Rattle.rules.specs.declared.Unsound.{Unsound}
use Rattle.model.specs.Entries.{entry_in}
use Rattle.model.specs.Prepared.{UndoSound}
use Rattle.corrections.specs.declared.records.Record.{Record}

-- a row of the undo table as a record
abbrev pub record_in : List ℤ → Record
record_in row = record { corner = (entry_in row).corner; place = (entry_in row).place }

-- the latest record names corner i, one of the plan's, and a place in range
pub record LatestIs (state : State) (undo : List (List ℤ)) (i : ℕ) (place : Point) : Type 0 where
  pub reach : state.undo_depth ≤ length undo
  pub corner : i ≡ (entry_in (get_or undo (state.undo_depth - 1) [])).corner
  pub place_is : place ≡ (entry_in (get_or undo (state.undo_depth - 1) [])).place
  pub one : i < state.corners
  pub near : in_range place ≡ true

abbrev pub LatestSays : State → List (List ℤ) → Result Record Unsound → Type 0
LatestSays state undo (Ok latest) = LatestIs state undo latest.corner latest.place
LatestSays state undo (Err _) = UndoSound state undo → ⊥
