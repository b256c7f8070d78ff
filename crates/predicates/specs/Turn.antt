-- The turn of three points and the closed segment (document 01, item 2).
use Rattle.std.specs.Prelude.{◌≡◌, Bool, true, ◌&&◌, ◌^◌, ℤ, pos, neg_ℤ, ◌-ℤ◌, ◌*ℤ◌}
use Rattle.std.specs.Int.Signed.{le_z, lt_z}
use Rattle.integers.specs.Signs.{sign_of, is_zero}
use Rattle.geom.specs.declared.Point.{Point}
use Rattle.geom.specs.Boxes.{rect_of, holds_point}

-- −2^62 ≤ z < 2^62: 63 bits hold it, and 64 the difference of two such numbers (document 02, R-2)
abbrev pub is_narrow : ℤ → Bool
is_narrow z = le_z (neg_ℤ (pos (2 ^ 62))) z && lt_z z (pos (2 ^ 62))

abbrev pub AllNarrow : (ax ay bx by cx cy : ℤ) → Type 0
AllNarrow ax ay bx by cx cy = (is_narrow ax ≡ true) × (is_narrow ay ≡ true) × (is_narrow bx ≡ true) × (is_narrow by ≡ true) × (is_narrow cx ≡ true) × (is_narrow cy ≡ true)

-- the cross product of b − a and c − a: twice the signed area of the triangle
unfoldable pub orientation : Point → Point → Point → ℤ
orientation a b c = (b.x -ℤ a.x) *ℤ (c.y -ℤ a.y) -ℤ (b.y -ℤ a.y) *ℤ (c.x -ℤ a.x)

-- p is on the line through a and b and in their box: on the closed segment
unfoldable pub on_segment : Point → Point → Point → Bool
unfolding orientation
on_segment a b p = is_zero (sign_of (orientation a b p)) && holds_point (rect_of a b) p
