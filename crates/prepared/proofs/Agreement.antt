-- The import and the edit reply alike: a look-up through the boxes and one ring by ring, over the same tables. Assumes nothing.
use mathlib.Core.Path.{◌≡◌, refl, sym, ◌∙◌}
use mathlib.Core.Bool.{Bool, true, false}
use mathlib.Core.Logic.{◌⊎◌, inl, inr, ⊎_elim}
use mathlib.Core.List.{List}
use Prim.Native.Nat.{ℕ}
use lib.IntN.{ℤ}
use Rattle.geom.specs.declared.Point.{Point}
use Rattle.geom.specs.Range.{in_range, in_doubled_range}
use Rattle.rules.specs.declared.Location.{Location}
use Rattle.rules.specs.declared.State.{State}
use Rattle.rules.specs.Plans.{plan_reply, plan_half_reply}
use Rattle.rules.specs.Tables.{plan_of}
use Rattle.gather.specs.Regions.{LookSound}
use Rattle.query.specs.Calls.{LookedUp}
use Rattle.prepared.specs.Calls.{Looked}
use Rattle.rules.specs.Answering.{Reply}

-- on either grid, by `ranged` and `location`: `locate`, `locate_along` with any ray and `locate_by_rings` (in_range p and plan_reply), or
-- `locate_doubled`, `locate_doubled_along` and `locate_doubled_by_rings` (in_doubled_range p and plan_half_reply). They agree for a point out
-- of range and on a marked plan whatever the tables hold, and for every point where the tables are sound
pub import_and_edit : (state : State) (corners : List ℤ) (rings polygons : List ℕ) (boxes : List (List ℤ)) (parts : List (List ℕ)) (edges : List ℕ) (ranged : Bool) (location : Location) (through_boxes by_rings : Reply)
    → Looked state corners rings polygons boxes parts edges ranged location through_boxes
    → LookedUp state corners rings polygons ranged location by_rings
    → ((state.out_of_range ≡ true) ⊎ (ranged ≡ false)) ⊎ LookSound state corners rings polygons boxes parts edges
    → through_boxes ≡ by_rings
import_and_edit state corners rings polygons boxes parts edges ranged location a b looked ring_looked when =
    ⊎_elim (λ e. looked.early e ∙ sym (ring_looked.early e)) (λ s. go state.out_of_range ranged refl refl s) when
  where
    go : (m r : Bool) → state.out_of_range ≡ m → ranged ≡ r → LookSound state corners rings polygons boxes parts edges → a ≡ b
    go true r m k s = looked.early (inl m) ∙ sym (ring_looked.early (inl m))
    go false false m k s = looked.early (inr k) ∙ sym (ring_looked.early (inr k))
    go false true m k s = (looked.looked m k).exact s ∙ sym (ring_looked.exact s.plan m)

-- by name, over sound tables and for every 64-bit point
module _ (state : State) (corners : List ℤ) (rings polygons : List ℕ) (boxes : List (List ℤ)) (parts : List (List ℕ)) (edges : List ℕ) (sound : LookSound state corners rings polygons boxes parts edges) (p : Point) (through_boxes by_rings : Reply) where
  -- `locate` (or `locate_along` with any ray) and `locate_by_rings`
  pub grid_alike : Looked state corners rings polygons boxes parts edges (in_range p) (plan_reply (plan_of state corners rings polygons) p) through_boxes
      → LookedUp state corners rings polygons (in_range p) (plan_reply (plan_of state corners rings polygons) p) by_rings
      → through_boxes ≡ by_rings
  grid_alike looked ring_looked = import_and_edit state corners rings polygons boxes parts edges (in_range p) (plan_reply (plan_of state corners rings polygons) p) through_boxes by_rings looked ring_looked (inr sound)

  -- `locate_doubled` (or `locate_doubled_along` with any ray) and `locate_doubled_by_rings`
  pub half_grid_alike : Looked state corners rings polygons boxes parts edges (in_doubled_range p) (plan_half_reply (plan_of state corners rings polygons) p) through_boxes
      → LookedUp state corners rings polygons (in_doubled_range p) (plan_half_reply (plan_of state corners rings polygons) p) by_rings
      → through_boxes ≡ by_rings
  half_grid_alike looked ring_looked = import_and_edit state corners rings polygons boxes parts edges (in_doubled_range p) (plan_half_reply (plan_of state corners rings polygons) p) through_boxes by_rings looked ring_looked (inr sound)
