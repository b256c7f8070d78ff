-- Edges by their number, over the tables of a prepared plan, and how each counts along a ray (document 01, items 1, 6 and 7).
use Rattle.std.specs.Prelude.{◌≡◌, true, cond, List, ℕ, ◌<◌, ltb, ℤ}
use Rattle.geom.specs.declared.Point.{Point}
use Rattle.geom.specs.declared.Rect.{Rect}
use Rattle.geom.specs.Boxes.{holds_rect}
use Rattle.rules.specs.declared.Ray.{Ray}
use Rattle.boxes.specs.Boxes.{edge_box}
use Rattle.boxes.specs.Rings.{edge_of}
use Rattle.rings.specs.declared.crossings.Crossing.{Crossing}
use Rattle.rings.specs.declared.crossings.Crossing.TheVariants.{Nothing}
use Rattle.rings.specs.Half.{near_doubled}
use Rattle.rays.specs.Along.{crossing_along}

-- edge e of n; a number that is no edge adds nothing
unfoldable pub crossing_at : ℕ → List ℤ → List ℕ → Ray → Point → ℕ → Crossing
crossing_at n corners rings ray p e = cond (ltb e n) (crossing_along ray (edge_of corners rings e).0 (edge_of corners rings e).1 p) Nothing

-- the same for a doubled point and the edge with its corners doubled
unfoldable pub half_crossing_at : ℕ → List ℤ → List ℕ → Ray → Point → ℕ → Crossing
half_crossing_at n corners rings ray p e = cond (ltb e n) (crossing_along ray (near_doubled (edge_of corners rings e).0) (near_doubled (edge_of corners rings e).1) p) Nothing

-- the boxes of the n edges lie in the root box
abbrev pub InRoot : ℕ → List ℤ → List ℕ → Rect → Type 0
InRoot n corners rings root = (e : ℕ) → e < n → holds_rect root (edge_box corners rings e) ≡ true
