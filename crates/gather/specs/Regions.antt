-- Where a point lies in a region, by one walk or two along a ray (document 01, items 4, 6 and 9, refusal 15).
use Rattle.std.specs.Prelude.{◌≡◌, Bool, true, ◌⊎◌, List, ℕ, ◌*◌, ◌≤◌, ◌<◌, ℤ, pos, length, get_or, Result, Ok, Err}
use Rattle.geom.specs.declared.Point.{Point}
use Rattle.rules.specs.declared.Kind.{Kind}
use Rattle.rules.specs.declared.Location.{Location}
use Rattle.rules.specs.declared.Location.TheVariants.{Outside}
use Rattle.rules.specs.declared.Refusal.TheVariants.{Unsound}
use Rattle.rules.specs.declared.State.{State}
use Rattle.rules.specs.Nodes.{node_count}
use Rattle.rules.specs.Plans.{Plan, kind_reply}
use Rattle.rules.specs.Tables.{polygons_in, PlanSound}
use Rattle.fold.specs.Regions.{region_place}
use Rattle.fold.specs.Folds.{Fits}
use Rattle.index.specs.Sound.{IndexSound}
use Rattle.gather.specs.declared.tally.Layout.{Layout}
use Rattle.gather.specs.declared.tally.Layout.TheVariants.{Listed, EachRing}
use Rattle.gather.specs.declared.collect.Stopped.{Stopped}
use Rattle.gather.specs.declared.collect.Stopped as Stopped
use Rattle.gather.specs.Slots.{place_of}
use Rattle.gather.specs.Tallies.{ring_at, size_of}
use Rattle.rules.specs.Answering.{Reply}

-- a list of rings reaches to place k
abbrev pub Listable : Layout → ℕ → ℕ → Type 0
Listable (Listed used) k listed = k < listed
Listable EachRing k listed = Unit {0}

-- slots by rising ring number, each with the place of the point in its ring; the point is outside of every ring that has none
pub record SlotsPlace (places : ℕ → Location) (count : ℕ) (layout : Layout) (listed : List ℕ) (slots : List ℤ) : Type 0 where
  pub rise : (i j : ℕ) → i < j → j < size_of count layout → ring_at layout listed i < ring_at layout listed j
  pub inside : (k : ℕ) → k < size_of count layout → ring_at layout listed k < count
  pub each : (k : ℕ) → k < size_of count layout → places (ring_at layout listed k) ≡ place_of (get_or slots k (pos 0))
  pub rest : (r : ℕ) → r < count → ((k : ℕ) → k < size_of count layout → ring_at layout listed k ≡ r → ⊥) → places r ≡ Outside

-- then item 4's reply is that of all rings
abbrev pub FoldSays : Kind → List ℕ → ℕ → ℕ → Layout → List ℕ → List ℤ → Location → Type 0
FoldSays kind polygons polygon_count count layout listed slots location =
    (places : ℕ → Location) → Fits kind count polygon_count polygons → SlotsPlace places count layout listed slots → location ≡ region_place kind places polygons polygon_count count

-- ---- a look-up through the boxes

-- no table is shorter than the state says; a tree has no polygon table
pub record Enough (state : State) (corners rings polygons boxes parts edges : ℕ) : Type 0 where
  pub corners_reach : 2 * state.corners ≤ corners
  pub rings_reach : state.rings ≤ rings
  pub polygons_reach : polygons_in state.kind state.polygons ≤ polygons
  pub boxes_reach : node_count state.corners ≤ boxes
  pub parts_reach : node_count state.corners ≤ parts
  pub edges_reach : state.corners ≤ edges

-- item 9: the tables that a look-up is lent are sound
pub record LookSound (state : State) (corners : List ℤ) (rings polygons : List ℕ) (boxes : List (List ℤ)) (parts : List (List ℕ)) (edges : List ℕ) : Type 0 where
  pub plan : PlanSound state corners rings polygons
  pub index : IndexSound state.corners corners rings boxes parts edges

-- what one walk says: on sound tables this place, never 15, and more rings than a list holds only where there is a list
abbrev pub RegionSays : Bool → Type 0 → Location → Result Location Stopped → Type 0
RegionSays few sound place (Ok location) = sound → location ≡ place
RegionSays few sound place (Err Stopped.TheVariants.TooMany) = few ≡ true
RegionSays few sound place (Err Stopped.TheVariants.Unsound) = sound → ⊥

-- a region's place as a reply
abbrev pub reply_of : Result Location Stopped → Reply
reply_of (Ok location) = Ok location
reply_of (Err stopped) = Err Unsound

-- item 4's reply for a plan of its kind
abbrev pub region_reply : Plan → Point → Location
region_reply plan p = kind_reply plan.kind plan p

-- a place, or 15
abbrev pub Placed : Reply → Type 0
Placed r = ((location : Location) × (r ≡ Ok location)) ⊎ (r ≡ Err Unsound)

-- 15 where a table is too short; a place or 15 on any tables; and this place on sound ones
pub record LookedUp (state : State) (corners : List ℤ) (rings polygons : List ℕ) (boxes : List (List ℤ)) (parts : List (List ℕ)) (edges : List ℕ) (place : Location) (r : Reply) : Type 0 where
  pub short : (Enough state (length corners) (length rings) (length polygons) (length boxes) (length parts) (length edges) → ⊥) → r ≡ Err Unsound
  pub placed : Placed r
  pub exact : LookSound state corners rings polygons boxes parts edges → r ≡ Ok place
