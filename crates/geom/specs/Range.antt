-- Which points are in range (document 01, items 1 and 7).
use Rattle.std.specs.Prelude.{Bool, ◌&&◌, ℕ, ◌^◌, ℤ, pos, neg_ℤ}
use Rattle.std.specs.Int.Signed.{le_z}
use Rattle.geom.specs.declared.Point.{Point}

-- −bound ≤ z ≤ bound, ends included
abbrev pub within : ℕ → ℤ → Bool
within bound z = le_z (neg_ℤ (pos bound)) z && le_z z (pos bound)

abbrev pub both_within : ℕ → Point → Bool
both_within bound p = within bound p.x && within bound p.y

-- item 1: a point of the grid
abbrev pub in_range : Point → Bool
in_range = both_within (2 ^ 40)

-- item 7: twice a point of the half-grid
abbrev pub in_doubled_range : Point → Bool
in_doubled_range = both_within (2 ^ 41)
