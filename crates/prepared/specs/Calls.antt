-- What look-ups through the boxes promise (document 01, items 6 and 7, refusal 15).
use Rattle.std.specs.Prelude.{◌≡◌, Bool, true, false, ◌⊎◌, List, ℕ, ◌<◌, ℤ, length, Ok}
use Rattle.geom.specs.declared.Rect.{Rect}
use Rattle.rules.specs.declared.Location.{Location}
use Rattle.rules.specs.declared.Location.TheVariants.{Outside}
use Rattle.rules.specs.declared.Ray.{Ray}
use Rattle.rules.specs.declared.Spot.{Spot}
use Rattle.rules.specs.declared.Spot.TheVariants.{OnGrid, Doubled}
use Rattle.rules.specs.declared.State.{State}
use Rattle.rules.specs.Rays.{ray_of}
use Rattle.rays.specs.Doubles.{near_doubled_rect}
use Rattle.gather.specs.declared.tables.Tables.{Tables}
use Rattle.gather.specs.Lent.{plan_in}
use Rattle.gather.specs.Regions.{LookedUp}
use Rattle.rules.specs.Spots.{spot_in_range, spot_reply}
use Rattle.rules.specs.Answering.{Reply}

-- a look-up in a prepared plan, whose point is in range or not, and the plan's reply
pub record Looked (state : State) (corners : List ℤ) (rings polygons : List ℕ) (boxes : List (List ℤ)) (parts : List (List ℕ)) (edges : List ℕ) (ranged : Bool) (location : Location) (r : Reply) : Type 0 where
  -- item 6: outside before a table is read
  pub early : (state.out_of_range ≡ true) ⊎ (ranged ≡ false) → r ≡ Ok Outside
  -- otherwise 15 where a table is too short, a place or 15 on any tables, and on sound ones the plan's reply
  pub looked : state.out_of_range ≡ false → ranged ≡ true → LookedUp state corners rings polygons boxes parts edges location r

-- in tables that are lent
abbrev pub LooksIn : State → Tables → Bool → Location → Reply → Type 0
LooksIn state tables = Looked state tables.corners.now tables.rings.now tables.polygons.now tables.boxes.now tables.parts.now tables.edges.now

-- a spot in tables that are lent
abbrev pub SpotLooked : State → Tables → Spot → Reply → Type 0
SpotLooked state tables spot = LooksIn state tables (spot_in_range spot) (spot_reply (plan_in state tables) spot)

-- the ray that is chosen over the root box, where there is one
abbrev pub Chosen : List (List ℤ) → Ray → Ray → Type 0
Chosen boxes chosen r = 0 < length boxes → r ≡ chosen

-- item 6's ray over a root box, on the half-grid over the doubled one
abbrev pub spot_ray : ℕ → Rect → Spot → Ray
spot_ray n root (OnGrid p) = ray_of n root p
spot_ray n root (Doubled p) = ray_of n (near_doubled_rect root) p
