-- Where a point lies in a region, given its place in each ring (document 01, item 4). A ring is known by its number, and `ends` says
-- where the rings of each polygon end.
use Rattle.std.specs.Prelude.{Bool, false, cond, ◌||◌, List, ℕ, zero, suc, ◌+◌, ◌-◌, get_or}
use Rattle.rules.specs.declared.Kind.{Kind}
use Rattle.rules.specs.declared.Kind.TheVariants.{Polygons, Tree}
use Rattle.rules.specs.declared.Location.{Location}
use Rattle.rules.specs.declared.Location.TheVariants.{Outside, Inside, OnBoundary}
use Rattle.rules.specs.Replies.{within_outer, by_hole, stronger}
use Rattle.rings.specs.Places.{is_boundary, flipped_by}
use Rattle.boxes.specs.Rings.{start_of}

-- item 4: a polygon of the n rings from ring a on. One more hole matters only while the point is inside what the rings before it leave
unfoldable pub polygon_place : (ℕ → Location) → ℕ → ℕ → Location
polygon_place places a zero = Outside
polygon_place places a (suc zero) = places a
polygon_place places a (suc (suc n)) = within_outer (polygon_place places a (suc n)) (by_hole (places (a + suc n)) Inside)

-- item 4: the first i polygons of a list; the strongest of their replies
unfoldable pub list_place : (ℕ → Location) → List ℕ → ℕ → Location
list_place places ends zero = Outside
list_place places ends (suc i) = stronger (list_place places ends i) (polygon_place places (start_of ends i) (get_or ends i 0 - start_of ends i))

-- item 4: the point is on the boundary of one of the first n rings
unfoldable pub touched : (ℕ → Location) → ℕ → Bool
touched places zero = false
touched places (suc n) = touched places n || is_boundary (places n)

-- item 4: it is inside an odd number of them
unfoldable pub odd_inside : (ℕ → Location) → ℕ → Bool
odd_inside places zero = false
odd_inside places (suc n) = flipped_by (odd_inside places n) (places n)

-- item 4: a tree, by these two
abbrev pub tree_place : Bool → Bool → Location
tree_place on odd = cond on OnBoundary (cond odd Inside Outside)

-- the region of n rings; a list's `count` polygons end at `ends`
abbrev pub region_place : Kind → (ℕ → Location) → List ℕ → ℕ → ℕ → Location
region_place Polygons places ends count n = list_place places ends count
region_place Tree places ends count n = tree_place (touched places n) (odd_inside places n)
