-- The plan that lent tables hold, and when those tables are sound (document 01, item 9; design of the tables: the ends of the rings
-- and of the polygons stand in them, and not the lengths).
use Rattle.std.specs.Prelude.{◌≡◌, true, List, [], ◌∷◌, ℕ, ◌+◌, ◌-◌, ◌*◌, ◌≤◌, ℤ, length, take}
use Rattle.rules.specs.declared.Kind.{Kind}
use Rattle.rules.specs.declared.Kind.TheVariants.{Polygons, Tree}
use Rattle.rules.specs.declared.State.{State}
use Rattle.rules.specs.Plans.{Plan, plan_verdict, plan_in_range}
use Rattle.rules.specs.Answering.{Accepted}

-- the sums so far of a list of lengths, from a start on
unfoldable pub ends_from : ℕ → List ℕ → List ℕ
ends_from start [] = []
ends_from start (n ∷ ns) = (start + n) ∷ ends_from (start + n) ns

-- and back: each length is an end less the end before it
unfoldable pub lengths_from : ℕ → List ℕ → List ℕ
lengths_from start [] = []
lengths_from start (end ∷ ends) = (end - start) ∷ lengths_from end ends

-- the first entries of a table of ends are the sums so far of lengths
abbrev pub Ends : ℕ → List ℕ → Type 0
Ends n table = ends_from 0 (lengths_from 0 (take n table)) ≡ take n table

-- a tree has no polygon table
abbrev pub polygons_in : Kind → ℕ → ℕ
polygons_in Polygons n = n
polygons_in Tree n = 0

-- the plan in the tables, as far as the state says that they reach
unfoldable pub plan_of : State → List ℤ → List ℕ → List ℕ → Plan
plan_of state corners rings polygons =
    record {
      kind = state.kind;
      coordinates = take (2 * state.corners) corners;
      lengths = lengths_from 0 (take state.rings rings);
      counts = lengths_from 0 (take (polygons_in state.kind state.polygons) polygons);
    }

-- item 9, of the plan's own tables: none is shorter than the state says, they would pass refusals 4 and 3, and every corner is in range
pub record PlanSound (state : State) (corners : List ℤ) (rings polygons : List ℕ) : Type 0 where
  pub corners_reach : 2 * state.corners ≤ length corners
  pub rings_reach : state.rings ≤ length rings
  pub polygons_reach : polygons_in state.kind state.polygons ≤ length polygons
  pub ring_ends : Ends state.rings rings
  pub polygon_ends : Ends (polygons_in state.kind state.polygons) polygons
  pub passes : plan_verdict (plan_of state corners rings polygons) ≡ Accepted
  pub near : plan_in_range (plan_of state corners rings polygons) ≡ true
