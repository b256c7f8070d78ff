-- Wrong programs that the contracts rule out, whatever their code is: what a promise gives where such a program gives something else.
-- Assumes nothing.
use mathlib.Core.Path.{◌≡◌, refl}
use mathlib.Core.Bool.{true, false}
use lib.IntN.{ℤ, pos, negsuc}
use Rattle.geom.specs.declared.Point.{Point}
use Rattle.geom.specs.declared.Rect.{Rect}
use Rattle.geom.specs.Boxes.{empty_rect, union_of, meets, holds_point, holds_rect}
use Rattle.geom.specs.Range.{in_range, in_doubled_range}

abbrev at : ℤ → ℤ → Point
at x y = record { x = x; y = y }

abbrev box : ℤ → ℤ → Rect
box low high = record { min = at low low; max = at high high }

-- boxes that touch and are told apart
touching : meets (box (pos 4) (pos 8)) (box (pos 0) (pos 4)) ≡ true
touching = refl

-- an open box
rim_held : holds_point (box (pos 0) (pos 4)) (at (pos 4) (pos 4)) ≡ true
rim_held = refl

-- a box held by one of its corners
both_corners : holds_rect (box (pos 0) (pos 4)) (box (pos 4) (pos 5)) ≡ false
both_corners = refl

-- a union that keeps one box's end
both_ends_lem : union_of (box (pos 0) (pos 4)) (box (pos 3) (pos 9)) ≡ box (pos 0) (pos 9)
both_ends_lem = refl

-- another end of `EMPTY_RECT`
least_of_64_bits : empty_rect.max.y ≡ negsuc 9223372036854775807
least_of_64_bits = refl

-- ranges that end beside their ends
range_end : in_range (at (pos 1099511627776) (negsuc 1099511627775)) ≡ true
range_end = refl

beyond_doubled : in_doubled_range (at (pos 2199023255553) (pos 0)) ≡ false
beyond_doubled = refl
