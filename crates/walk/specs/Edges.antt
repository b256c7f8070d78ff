-- An edge by its number, on any tables (document 01, item 1, refusal 15).
use Rattle.std.specs.Prelude.{◌≡◌, List, ℕ, ◌*◌, ◌≤◌, ◌<◌, ℤ, length, get_or, Result, Ok, Err}
use Rattle.rules.specs.declared.Refusal as Refusal
use Rattle.rules.specs.declared.Unsound.{Unsound}
use Rattle.rules.specs.Numbers.{refusal_number}
use Rattle.rules.specs.Plans.{corner_at}
use Rattle.boxes.specs.Rings.{start_of, next_in, edge_of, RingAt, RingEnds}
use Rattle.walk.specs.declared.LentPlan.{LentPlan}
use Rattle.walk.specs.declared.edges.Edge.{Edge}

-- 0 for an edge, or the refusal
abbrev pub edge_number : Result Edge Unsound → ℕ
edge_number (Ok edge) = 0
edge_number (Err _) = refusal_number Refusal.TheVariants.Unsound

-- a ring is one that holds corner e; none is found only where the table is no table of ring ends with e among its corners
abbrev pub RingSays : List ℕ → ℕ → ℕ → Result ℕ Unsound → Type 0
RingSays rings count e (Ok ring) = (count ≤ length rings) × RingAt rings count e ring
RingSays rings count e (Err _) = (n : ℕ) → RingEnds n count rings → e < n → ⊥

-- the corner and ring tables as far as the edge of a number rests on them
pub record EdgeSound (n count : ℕ) (corners : List ℤ) (rings : List ℕ) (e : ℕ) : Type 0 where
  pub one : e < n
  pub reach : 2 * n ≤ length corners
  pub ends : RingEnds n count rings

-- on any tables the ring holds the edge, which runs from its corner to the next one between the ring's two ends, and both are corners of
-- the plan. On a table of ring ends that is the edge of item 1, and no other ring holds it
pub record EdgeFound (n count : ℕ) (corners : List ℤ) (rings : List ℕ) (e : ℕ) (edge : Edge) : Type 0 where
  pub number : edge_number (Ok edge) ≡ 0
  pub one : e < n
  pub reach : 2 * n ≤ length corners
  pub rings_reach : count ≤ length rings
  pub holds : RingAt rings count e edge.ring
  pub starts : edge.from ≡ corner_at corners e
  pub next : next_in (start_of rings edge.ring) (get_or rings edge.ring 0) e < n
  pub stops : edge.to ≡ corner_at corners (next_in (start_of rings edge.ring) (get_or rings edge.ring 0) e)
  pub edge_is : RingEnds n count rings → (edge.from, edge.to) ≡ edge_of corners rings e
  pub only : RingEnds n count rings → (r : ℕ) → RingAt rings count e r → r ≡ edge.ring

-- 15: never for an edge of tables that are sound so far
pub record EdgeRefused (n count : ℕ) (corners : List ℤ) (rings : List ℕ) (e : ℕ) : Type 0 where
  pub number : edge_number (Err (record {})) ≡ 15
  pub never : EdgeSound n count corners rings e → ⊥

abbrev pub EdgeSays : List ℤ → List ℕ → ℕ → ℕ → ℕ → Result Edge Unsound → Type 0
EdgeSays corners rings n count e (Ok edge) = EdgeFound n count corners rings e edge
EdgeSays corners rings n count e (Err _) = EdgeRefused n count corners rings e

-- of a plan that is lent
abbrev pub EdgeIn : LentPlan → ℕ → Result Edge Unsound → Type 0
EdgeIn plan e r = EdgeSays plan.corners.now plan.rings.now plan.n plan.count e r
