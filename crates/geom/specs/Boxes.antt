-- Closed boxes (document 01, item 1).
use Rattle.std.specs.Prelude.{Bool, ◌&&◌, ◌^◌, List, [], ◌∷◌, ℤ, pos, neg_ℤ, get_or}
use Rattle.std.specs.Int.Signed.{le_z}
use Rattle.integers.specs.Extremes.{min_z, max_z}
use Rattle.geom.specs.declared.Point.{Point}
use Rattle.geom.specs.declared.Rect.{Rect}

-- the lesser coordinates of two points, and the greater
abbrev pub lesser_of : Point → Point → Point
lesser_of p q = record { x = min_z p.x q.x; y = min_z p.y q.y }

abbrev pub greater_of : Point → Point → Point
greater_of p q = record { x = max_z p.x q.x; y = max_z p.y q.y }

-- the box of two corners in any order
abbrev pub rect_of : Point → Point → Rect
rect_of a b = record { min = lesser_of a b; max = greater_of a b }

-- the box round no edges: its least corner is the greatest of 64 bits and its greatest corner the least
abbrev pub empty_rect : Rect
empty_rect = record { min = record { x = pos 9223372036854775807; y = pos 9223372036854775807 }; max = record { x = neg_ℤ (pos (2 ^ 63)); y = neg_ℤ (pos (2 ^ 63)) } }

abbrev pub union_of : Rect → Rect → Rect
union_of r s = record { min = lesser_of r.min s.min; max = greater_of r.max s.max }

-- closed boxes share a point where neither ends before the other begins, in x and in y
abbrev pub meets : Rect → Rect → Bool
meets r s = (le_z r.min.x s.max.x && le_z s.min.x r.max.x) && (le_z r.min.y s.max.y && le_z s.min.y r.max.y)

abbrev pub holds_point : Rect → Point → Bool
holds_point r p = (le_z r.min.x p.x && le_z p.x r.max.x) && (le_z r.min.y p.y && le_z p.y r.max.y)

abbrev pub holds_rect : Rect → Rect → Bool
holds_rect r s = holds_point r s.min && holds_point r s.max

-- a box as a row of the box table, and a row as a box
abbrev pub row_of : Rect → List ℤ
row_of r = r.min.x ∷ r.min.y ∷ r.max.x ∷ r.max.y ∷ []

abbrev pub rect_in : List ℤ → Rect
rect_in row =
    record {
      min = record { x = get_or row 0 (pos 0); y = get_or row 1 (pos 0) };
      max = record { x = get_or row 2 (pos 0); y = get_or row 3 (pos 0) };
    }
