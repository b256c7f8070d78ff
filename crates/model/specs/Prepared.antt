-- All that a call on a prepared plan is given and leaves, and when it is sound (document 01, item 9 and "The correction book").
use Rattle.std.specs.Prelude.{◌≡◌, true, ◌⊎◌, List, [], ℕ, ◌+◌, ◌≤◌, ◌<◌, ℤ, length, get_or}
use Rattle.geom.specs.Range.{in_range}
use Rattle.rules.specs.declared.State.{State}
use Rattle.rules.specs.Nodes.{node_count}
use Rattle.rules.specs.Plans.{Plan}
use Rattle.rules.specs.Tables.{plan_of, PlanSound}
use Rattle.boxes.specs.Rings.{next_corner}
use Rattle.index.specs.Parts.{first_at, count_at}
use Rattle.index.specs.Sound.{IndexSound}
use Rattle.model.specs.Entries.{entry_in}

-- the state and the lent tables
pub record Prepared : Type 0 where
  pub state : State
  pub corners : List ℤ
  pub rings : List ℕ
  pub polygons : List ℕ
  pub boxes : List (List ℤ)
  pub parts : List (List ℕ)
  pub edges : List ℕ
  pub undo : List (List ℤ)

abbrev pub prepared_of : State → List ℤ → List ℕ → List ℕ → List (List ℤ) → List (List ℕ) → List ℕ → List (List ℤ) → Prepared
prepared_of state corners rings polygons boxes parts edges undo =
    record {
      state = state;
      corners = corners;
      rings = rings;
      polygons = polygons;
      boxes = boxes;
      parts = parts;
      edges = edges;
      undo = undo;
    }

-- the plan that the tables hold
abbrev pub plan_held : Prepared → Plan
plan_held d = plan_of d.state d.corners d.rings d.polygons

-- ---- soundness

-- item 9: the undo table is not shorter than the state says, and every record names a corner and a place in range
pub record UndoSound (state : State) (undo : List (List ℤ)) : Type 0 where
  pub reach : state.undo_depth ≤ length undo
  pub corner : (k : ℕ) → k < state.undo_depth → (entry_in (get_or undo k [])).corner < state.corners
  pub place : (k : ℕ) → k < state.undo_depth → in_range (entry_in (get_or undo k [])).place ≡ true

-- item 9, whole: the plan's own tables, nodes and edges, and the undo records. That the plan is not marked is no part of it
pub record Sound (d : Prepared) : Type 0 where
  pub plan : PlanSound d.state d.corners d.rings d.polygons
  pub index : IndexSound d.state.corners d.corners d.rings d.boxes d.parts d.edges
  pub records : UndoSound d.state d.undo

-- ---- the boxes above a corner's edges

-- edge e is one of corner i's two: the one that starts there or the one that ends there
pub record EdgeOf (n : ℕ) (rings : List ℕ) (i e : ℕ) : Type 0 where
  pub edge : e < n
  pub end : (e ≡ i) ⊎ (next_corner rings e ≡ i)

-- node p has one of corner i's edges among its edges, which are those in its part of the edge list
pub record Above (d : Prepared) (i p : ℕ) : Type 0 where
  pub node : p < node_count d.state.corners
  pub at : ℕ
  pub from : first_at d.parts p ≤ at
  pub to : at < first_at d.parts p + count_at d.parts p
  pub touched : EdgeOf d.state.corners d.rings i (get_or d.edges at 0)
