-- The plan of the polygons that a text spells (document 02, R-1), and which rings get 22.
use Rattle.std.specs.Prelude.{Bool, true, false, ◌&&◌, List, [], ◌∷◌, ◌++◌, ℕ, eqb, ℤ, pos, negsuc, length}
use Rattle.geom.specs.declared.Point.{Point}
use Rattle.rules.specs.declared.Kind.TheVariants.{Polygons}
use Rattle.rules.specs.Plans.{Plan}
use Rattle.grammar.specs.Grammar.{Ring, Polygon}
use Rattle.grammar.specs.Texts.{drop_last}

abbrev pub same_number : ℤ → ℤ → Bool
same_number (pos m) (pos n) = eqb m n
same_number (pos m) (negsuc n) = false
same_number (negsuc m) (pos n) = false
same_number (negsuc m) (negsuc n) = eqb m n

abbrev pub same_point : Point → Point → Bool
same_point p q = same_number p.x q.x && same_number p.y q.y

-- whether the last of these positions is p
unfoldable pub ends_at : Point → Ring → Bool
ends_at p [] = false
ends_at p (q ∷ []) = same_point p q
ends_at p (q ∷ r ∷ ring) = ends_at p (r ∷ ring)

-- two positions at least, and the last is the first
unfoldable pub is_closed : Ring → Bool
is_closed [] = false
is_closed (p ∷ ring) = ends_at p ring

unfoldable pub all_closed : List Ring → Bool
all_closed [] = true
all_closed (ring ∷ rings) = is_closed ring && all_closed rings

unfoldable pub every_closed : List Polygon → Bool
every_closed [] = true
every_closed (rings ∷ polygons) = all_closed rings && every_closed polygons

-- x, y, x, y, ..
unfoldable pub numbers_of : Ring → List ℤ
numbers_of [] = []
numbers_of (p ∷ ring) = p.x ∷ p.y ∷ numbers_of ring

-- "The repeated last corner of each ring is dropped on reading"
unfoldable pub ring_numbers : List Ring → List ℤ
ring_numbers [] = []
ring_numbers (ring ∷ rings) = numbers_of (drop_last ring) ++ ring_numbers rings

unfoldable pub coordinates : List Polygon → List ℤ
coordinates [] = []
coordinates (rings ∷ polygons) = ring_numbers rings ++ coordinates polygons

unfoldable pub ring_lengths : List Ring → List ℕ
ring_lengths [] = []
ring_lengths (ring ∷ rings) = length (drop_last ring) ∷ ring_lengths rings

unfoldable pub lengths : List Polygon → List ℕ
lengths [] = []
lengths (rings ∷ polygons) = ring_lengths rings ++ lengths polygons

unfoldable pub counts : List Polygon → List ℕ
counts [] = []
counts (rings ∷ polygons) = length rings ∷ counts polygons

-- the plan that they make: a list
abbrev pub plan_spelt : List Polygon → Plan
plan_spelt polygons = record { kind = Polygons; coordinates = coordinates polygons; lengths = lengths polygons; counts = counts polygons }
