-- Wrong programs that the contracts rule out, whatever their code is: what a promise gives where such a program gives something else.
-- Assumes nothing.
use mathlib.Core.Path.{◌≡◌, refl}
use mathlib.Core.Bool.{true, false}
use Prim.Native.Nat.{◌^◌}
use lib.IntN.{pos, negsuc, neg_ℤ}
use Rattle.integers.specs.Words.{size_of, word_pair, wide_value_of, top_bit}
use Rattle.geom.specs.declared.Point.{Point}
use Rattle.predicates.specs.Turn.{is_narrow, orientation}

-- the largest turn: half of the square that all points of 64 bits lie in
abbrev low_corner : Point
low_corner = record { x = negsuc 9223372036854775807; y = negsuc 9223372036854775807 }

abbrev right_corner : Point
right_corner = record { x = pos 9223372036854775807; y = negsuc 9223372036854775807 }

abbrev upper_corner : Point
upper_corner = record { x = negsuc 9223372036854775807; y = pos 9223372036854775807 }

-- a borrow read off the top bit for all points: the largest turn has its top bit set and did not borrow
largest : (orientation low_corner right_corner upper_corner ≡ wide_value_of (record { borrow = false; words = record { hi = 18446744073709551614; lo = 1 } })) × (top_bit (record { hi = 18446744073709551614; lo = 1 }) ≡ true)
unfolding orientation wide_value_of size_of word_pair
largest = (refl, refl)

-- a coordinate taken for narrow whose difference 64 bits do not hold
narrow_ends : (is_narrow (neg_ℤ (pos (2 ^ 62))) ≡ true) × (is_narrow (pos (2 ^ 62)) ≡ false)
narrow_ends = (refl, refl)
