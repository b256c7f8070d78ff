-- What the lent tables hold after preparing (document 01, items 5, 6 and 9).
use Rattle.std.specs.Prelude.{◌≡◌, true, false, List, ◌++◌, ℕ, ◌≤◌, ℤ, length, drop, Ok, Err}
use Rattle.rules.specs.declared.Kind.{Kind}
use Rattle.rules.specs.declared.Kind.TheVariants.{Polygons, Tree}
use Rattle.rules.specs.declared.State.{State}
use Rattle.rules.specs.Lists.{total}
use Rattle.rules.specs.Nodes.{node_count}
use Rattle.rules.specs.Plans.{Plan}
use Rattle.rules.specs.Tables.{ends_from}
use Rattle.boxes.specs.Rings.{RingEnds, CornersNear}
use Rattle.index.specs.Build.{Built}
use Rattle.prepare.specs.declared.Room.{Room}
use Rattle.prepare.specs.Answers.{preparing_number, preparing_detail, state_of, preparing, number_due, detail_due, Preparing}

-- the lent tables of a prepared plan
pub record Tables : Type 0 where
  pub corners : List ℤ
  pub rings : List ℕ
  pub polygons : List ℕ
  pub boxes : List (List ℤ)
  pub parts : List (List ℕ)
  pub edges : List ℕ

abbrev pub room_of : Tables → Room
room_of t =
    record {
      corners = length t.corners;
      rings = length t.rings;
      polygons = length t.polygons;
      boxes = length t.boxes;
      parts = length t.parts;
      edges = length t.edges;
    }

-- ---- the plan's own tables

-- a table with the sums so far of a list of lengths at its start, and otherwise as it was
abbrev pub ends_in : List ℕ → List ℕ → List ℕ
ends_in lengths table = ends_from 0 lengths ++ drop (length lengths) table

-- a tree's polygon table stays as it was
abbrev pub polygons_end : Kind → List ℕ → List ℕ → List ℕ
polygons_end Polygons counts table = ends_in counts table
polygons_end Tree counts table = table

-- the plan stands at the start of its tables, which are otherwise as they were
pub record PlanPut (plan : Plan) (corners : List ℤ) (rings polygons : List ℕ) (corners' : List ℤ) (rings' polygons' : List ℕ) : Type 0 where
  pub corners_are : corners' ≡ plan.coordinates ++ drop (length plan.coordinates) corners
  pub rings_are : rings' ≡ ends_in plan.lengths rings
  pub polygons_are : polygons' ≡ polygons_end plan.kind plan.counts polygons

-- ---- nodes and edges

-- a marked plan leaves them unwritten; with every corner in range they are the index over the plan's edges, built with so many reads
pub record Indexed (state : State) (corners : List ℤ) (rings : List ℕ) (boxes : List (List ℤ)) (parts : List (List ℕ)) (edges : List ℕ) (boxes' : List (List ℤ)) (parts' : List (List ℕ)) (edges' : List ℕ) : Type 0 where
  pub unwritten : state.out_of_range ≡ true → (boxes' ≡ boxes) × (parts' ≡ parts) × (edges' ≡ edges)
  pub built : state.out_of_range ≡ false → (reads : ℕ) × Built state.corners corners rings boxes parts edges boxes' parts' edges' (node_count state.corners) reads

-- ---- the contract

-- the tables before and after preparing, where it is not refused
pub record Filled (plan : Plan) (before after : Tables) : Type 0 where
  pub plan_put : PlanPut plan before.corners before.rings before.polygons after.corners after.rings after.polygons
  pub indexed : Indexed (state_of plan) after.corners after.rings before.boxes before.parts before.edges after.boxes after.parts after.edges

-- a refusal changes nothing lent
abbrev pub Left : Plan → Tables → Tables → Preparing → Type 0
Left plan before after (Ok ready) = Filled plan before after
Left plan before after (Err refusal) = after ≡ before

-- answer and tables of `prepare`
pub record Prepared (plan : Plan) (before after : Tables) (r : Preparing) : Type 0 where
  pub answer : r ≡ preparing plan (room_of before)
  pub number : preparing_number r ≡ number_due plan (room_of before)
  pub detail : preparing_detail r ≡ detail_due plan (room_of before)
  pub tables : Left plan before after r

-- ---- what the steps ask

-- there is room for the ends, and they can be counted on
pub record Fits (lengths table : List ℕ) : Type 0 where
  pub reach : length lengths ≤ length table
  pub few : total lengths ≤ 1048576

-- nothing is asked for a tree
abbrev pub PolygonsFit : Kind → List ℕ → List ℕ → Type 0
PolygonsFit Polygons counts table = Fits counts table
PolygonsFit Tree counts table = Unit {0}

pub record PlanFits (plan : Plan) (corners : List ℤ) (rings polygons : List ℕ) : Type 0 where
  pub corners_fit : length plan.coordinates ≤ length corners
  pub rings_fit : Fits plan.lengths rings
  pub polygons_fit : PolygonsFit plan.kind plan.counts polygons

-- the plan in the tables can be indexed, unless it is marked
pub record Indexable (n count : ℕ) (corners : List ℤ) (rings : List ℕ) (boxes parts edges : ℕ) : Type 0 where
  pub near : CornersNear n corners
  pub ends : RingEnds n count rings
  pub boxes_reach : node_count n ≤ boxes
  pub parts_reach : node_count n ≤ parts
  pub edges_reach : n ≤ edges

abbrev pub Buildable : State → List ℤ → List ℕ → List (List ℤ) → List (List ℕ) → List ℕ → Type 0
Buildable state corners rings boxes parts edges = state.out_of_range ≡ false → Indexable state.corners state.rings corners rings (length boxes) (length parts) (length edges)
