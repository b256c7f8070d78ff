-- Halves of an integer, exact below zero (document 01, item 7).
use Rattle.std.specs.Prelude.{◌/◌, ℤ, pos, negsuc, neg_ℤ}

-- ⌊z / 2⌋: of −1 − n it is −1 − ⌊n / 2⌋, so −1 gives −1
abbrev pub floor_half : ℤ → ℤ
floor_half (pos n) = pos (n / 2)
floor_half (negsuc n) = negsuc (n / 2)

-- ⌈z / 2⌉ is −⌊−z / 2⌋, so −1 gives 0
abbrev pub ceiling_half : ℤ → ℤ
ceiling_half z = neg_ℤ (floor_half (neg_ℤ z))
