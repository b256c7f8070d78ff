-- The rules of item 4 as a fold over the rings met, by rising ring number: a ring not met is one that the point is outside of.
use Rattle.std.specs.Prelude.{◌≡◌, false, cond, ◌||◌, Option, Some, None, List, ℕ, zero, suc, ◌+◌, ◌-◌, ◌≤◌, ◌<◌, eqb, get_or}
use Rattle.rules.specs.declared.Kind.{Kind}
use Rattle.rules.specs.declared.Kind.TheVariants.{Polygons, Tree}
use Rattle.rules.specs.declared.Location.{Location}
use Rattle.rules.specs.declared.Location.TheVariants.{Outside, Inside}
use Rattle.rules.specs.Replies.{within_outer, by_hole, stronger}
use Rattle.rings.specs.Places.{is_boundary, flipped_by}
use Rattle.boxes.specs.Rings.{start_of, RingAt, RingEnds}
use Rattle.fold.specs.declared.Fold.{Fold}
use Rattle.fold.specs.declared.Fold as Fold
use Rattle.fold.specs.declared.ListFold.{ListFold}
use Rattle.fold.specs.declared.Polygon.{Polygon}
use Rattle.fold.specs.declared.Span.{Span}
use Rattle.fold.specs.declared.TreeFold.{TreeFold}
use Rattle.fold.specs.Regions.{polygon_place, list_place, touched, odd_inside, tree_place}

-- ---- a fold's value

-- before the first ring
abbrev pub begun : Kind → Fold
begun Polygons = Fold.TheVariants.List (record { best = Outside; current = None })
begun Tree = Fold.TheVariants.Tree (record { odd = false; on = false })

-- the open polygon's reply if no further ring of it is met, and where its rings end: outside and 0 where none is open
abbrev pub open_place : Option Polygon → Location
open_place None = Outside
open_place (Some polygon) = polygon.place

abbrev pub open_end : Option Polygon → ℕ
open_end None = 0
open_end (Some polygon) = polygon.end

-- where the point lies if no further ring is met
abbrev pub list_place_of : ListFold → Location
list_place_of list = stronger list.best (open_place list.current)

abbrev pub tree_place_of : TreeFold → Location
tree_place_of tree = tree_place tree.on tree.odd

abbrev pub place_of : Fold → Location
place_of (Fold.TheVariants.List list) = list_place_of list
place_of (Fold.TheVariants.Tree tree) = tree_place_of tree

-- ---- one ring more

-- one more hole of the open polygon
abbrev pub with_hole : Polygon → Location → Polygon
with_hole polygon hole = record { place = within_outer polygon.place (by_hole hole Inside); end = polygon.end }

-- the first ring of a polygon that is met: its outer, or else a hole of an outer that the point is outside of
abbrev pub first_met : ℕ → ℕ → Location → Location
first_met ring start place = cond (eqb ring start) place Outside

-- a ring of another polygon, which has the rings from `start` to `end`
abbrev pub opened : ListFold → ℕ → ℕ → ℕ → Location → ListFold
opened list start end ring place = record { best = list_place_of list; current = Some (record { place = first_met ring start place; end = end }) }

-- one more ring of a tree
abbrev pub with_ring : TreeFold → Location → TreeFold
with_ring tree place = record { odd = flipped_by tree.odd place; on = tree.on || is_boundary place }

-- the polygon that a ring is of, by the rings that it has; none only where the ends do not fit
pub record Spans (ends : List ℕ) (count ring start end : ℕ) : Type 0 where
  pub polygon : ℕ
  pub holds : RingAt ends count ring polygon
  pub from : start ≡ start_of ends polygon
  pub to : end ≡ get_or ends polygon 0

abbrev pub SpanSays : List ℕ → ℕ → ℕ → Option Span → Type 0
SpanSays ends count ring None = (n : ℕ) → RingEnds n count ends → ring < n → ⊥
SpanSays ends count ring (Some span) = Spans ends count ring span.start span.end

-- ---- how a fold stands before ring r

-- polygon i is the open one: those before it are weighed, and its own rings are counted up to ring `seen`
pub record Current (places : ℕ → Location) (ends : List ℕ) (seen : ℕ) (list : ListFold) (i : ℕ) : Type 0 where
  pub first : start_of ends i < seen
  pub best : list.best ≡ list_place places ends i
  pub current : open_place list.current ≡ polygon_place places (start_of ends i) (seen - start_of ends i)

-- so many polygons were opened; the last one is the open one
abbrev pub Standing : (ℕ → Location) → List ℕ → ℕ → ListFold → ℕ → Type 0
Standing places ends seen list zero = (list.best ≡ Outside) × (open_place list.current ≡ Outside)
Standing places ends seen list (suc i) = Current places ends seen list i

-- a list: the point is outside of every ring from `seen` to r, and `seen` is no later than r and the open polygon's end
pub record ListFolding (places : ℕ → Location) (ends : List ℕ) (count r : ℕ) (list : ListFold) : Type 0 where
  pub opened : ℕ
  pub seen : ℕ
  pub few : opened ≤ count
  pub end : open_end list.current ≡ start_of ends opened
  pub behind : seen ≤ r
  pub low : seen ≤ open_end list.current
  pub clear : (k : ℕ) → seen ≤ k → k < r → places k ≡ Outside
  pub stands : Standing places ends seen list opened

-- a tree: both flags are those of the first r rings
pub record TreeFolding (places : ℕ → Location) (r : ℕ) (tree : TreeFold) : Type 0 where
  pub on : tree.on ≡ touched places r
  pub odd : tree.odd ≡ odd_inside places r

-- the fold is one of this kind, and has taken in every ring before ring r that the point is not outside of
abbrev pub Folding : Kind → (ℕ → Location) → List ℕ → ℕ → ℕ → Fold → Type 0
Folding Polygons places ends count r (Fold.TheVariants.List list) = ListFolding places ends count r list
Folding Polygons places ends count r (Fold.TheVariants.Tree tree) = ⊥
Folding Tree places ends count r (Fold.TheVariants.List list) = ⊥
Folding Tree places ends count r (Fold.TheVariants.Tree tree) = TreeFolding places r tree

-- the polygon table ends `count` polygons, which have all of the n rings; a tree has none
abbrev pub Fits : Kind → ℕ → ℕ → List ℕ → Type 0
Fits Polygons n count ends = RingEnds n count ends
Fits Tree n count ends = Unit {0}

-- a step: where the polygon table fits, the fold takes in one ring more
abbrev pub ListFolds : List ℕ → ℕ → ListFold → ℕ → Location → ListFold → Type 0
ListFolds ends count list ring place r =
    (n : ℕ) → RingEnds n count ends → ring < n
    → (places : ℕ → Location) → ListFolding places ends count ring list → places ring ≡ place → ListFolding places ends count (ring + 1) r

abbrev pub Folds : List ℕ → ℕ → Fold → ℕ → Location → Fold → Type 0
Folds ends count fold ring place r =
    (kind : Kind) (n : ℕ) → Fits kind n count ends → ring < n
    → (places : ℕ → Location) → Folding kind places ends count ring fold → places ring ≡ place → Folding kind places ends count (ring + 1) r
