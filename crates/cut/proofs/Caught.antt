-- Wrong programs that the contracts rule out, whatever their code is: what a promise gives where such a program gives something else.
-- Assumes nothing.
use mathlib.Core.Path.{◌≡◌, refl}
use lib.IntN.{pos}
use Rattle.geom.specs.declared.Rect.{Rect}
use Rattle.cut.specs.declared.keys.Axis.TheVariants.{X}
use Rattle.cut.specs.Keys.{axis_of, key_of, packed_of}

-- the box from (0, 0) to (10, 10)
abbrev square : Rect
square = record { min = record { x = pos 0; y = pos 0 }; max = record { x = pos 10; y = pos 10 } }

-- a square cut along y
square_along_x : axis_of square ≡ X
square_along_x = refl

-- a key from one end
both_ends_lem : key_of X square ≡ pos 10
both_ends_lem = refl

-- an edge number that is lost, and a key in too few bits
edge_and_key : packed_of (pos 1) 1 ≡ 2305843009214742529
unfolding packed_of
edge_and_key = refl
