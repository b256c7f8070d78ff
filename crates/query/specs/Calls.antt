-- What the look-ups in a plan promise.
use Rattle.std.specs.Prelude.{◌≡◌, Bool, true, false, ◌||◌, ◌⊎◌, List, ℕ, ◌*◌, ◌/◌, ltb, ℤ, length, Err, Ok}
use Rattle.geom.specs.declared.Point.{Point}
use Rattle.rules.specs.declared.Kind.{Kind}
use Rattle.rules.specs.declared.Location.{Location}
use Rattle.rules.specs.declared.Location.TheVariants.{Outside}
use Rattle.rules.specs.declared.Refusal.TheVariants.{Unsound}
use Rattle.rules.specs.declared.State.{State}
use Rattle.rules.specs.declared.Spot.{Spot}
use Rattle.rules.specs.Plans.{Plan, is_list, kind_reply, plan_in_range}
use Rattle.rules.specs.Spots.{near_reply}
use Rattle.rules.specs.Tables.{polygons_in, PlanSound}
use Rattle.outlines.specs.declared.rows.Form.{Form}
use Rattle.outlines.specs.Rows.{lengths_by, Within}
use Rattle.outlines.specs.Shapes.{Placed}
use Rattle.rules.specs.Answering.{Reply}

-- the plan that tables of either form hold
abbrev pub plan_by : Form → Kind → List ℤ → List ℕ → List ℕ → Plan
plan_by form kind coordinates rings polygons = record { kind = kind; coordinates = coordinates; lengths = lengths_by form 0 rings; counts = lengths_by form 0 polygons }

-- every entry of the ring table fits and, of a list, of the polygon table
pub record Fitting (form : Form) (kind : Kind) (coordinates : List ℤ) (rings polygons : List ℕ) : Type 0 where
  pub by_ring : Within form (length coordinates / 2) 0 rings
  pub by_polygon : is_list kind ≡ true → Within form (length rings) 0 polygons

-- a place or 15, and item 4's reply where every entry fits
pub record PlanShown (form : Form) (kind : Kind) (coordinates : List ℤ) (rings polygons : List ℕ) (p : Point) (r : Reply) : Type 0 where
  pub placed : Placed r
  pub exact : Fitting form kind coordinates rings polygons → r ≡ Ok (kind_reply kind (plan_by form kind coordinates rings polygons) p)

-- the same on either grid: on the half-grid item 7's reply, where every corner is in range too
pub record SpotShown (form : Form) (kind : Kind) (coordinates : List ℤ) (rings polygons : List ℕ) (spot : Spot) (r : Reply) : Type 0 where
  pub placed : Placed r
  pub exact : Fitting form kind coordinates rings polygons → plan_in_range (plan_by form kind coordinates rings polygons) ≡ true → r ≡ Ok (near_reply (plan_by form kind coordinates rings polygons) spot)

-- refusal 15: a table is shorter than the state says; a tree has no polygon table
unfoldable pub too_short : State → List ℤ → List ℕ → List ℕ → Bool
too_short state corners rings polygons =
    ltb (length corners) (2 * state.corners)
    || (ltb (length rings) state.rings || ltb (length polygons) (polygons_in state.kind state.polygons))

-- a look-up in a prepared plan's own tables: what is settled before a table is read; 15 where a table is too short; a place or 15 in any
-- case; and on sound tables of a plan in range this place
pub record LookedUp (state : State) (corners : List ℤ) (rings polygons : List ℕ) (ranged : Bool) (location : Location) (r : Reply) : Type 0 where
  pub early : (state.out_of_range ≡ true) ⊎ (ranged ≡ false) → r ≡ Ok Outside
  pub short : state.out_of_range ≡ false → ranged ≡ true → too_short state corners rings polygons ≡ true → r ≡ Err Unsound
  pub placed : Placed r
  pub exact : PlanSound state corners rings polygons → state.out_of_range ≡ false → r ≡ Ok location
