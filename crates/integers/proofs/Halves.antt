-- The floor and ceiling halves are the ones of the textbook: 2 ⌊z / 2⌋ ≤ z < 2 ⌊z / 2⌋ + 2, 2 ⌈z / 2⌉ − 2 < z ≤ 2 ⌈z / 2⌉,
-- and no other number is so. Assumes nothing.
use Rattle.std.proofs.Common.{◌≡◌, zero, suc, ◌+◌, ◌*◌, ◌/◌, ◌≤◌, ℤ, pos, negsuc, ◌+ℤ◌, ◌-ℤ◌, ◌≤ℤ◌, ◌<ℤ◌, refl, arith}
use Rattle.integers.specs.Halves.{floor_half, ceiling_half}
use Rattle.integers.proofs.Differences.{up, dn}
use Rattle.integers.proofs.Order.{zarith, add_parts, sub_parts, neg_parts, thin}

-- a remainder of 0 or 1 is left
floor_parts : (z : ℤ) → (up z + 2 * dn (floor_half z) ≤ 2 * up (floor_half z) + dn z + 1) × (2 * up (floor_half z) + dn z ≤ up z + 2 * dn (floor_half z))
floor_parts (pos n) = omega arith
floor_parts (negsuc n) = omega arith

pub floor_below : (z : ℤ) → (floor_half z +ℤ floor_half z) ≤ℤ z
floor_below z = let h = floor_half z in omega (zarith, floor_parts z, add_parts h h)

pub floor_above : (z : ℤ) → z <ℤ (floor_half z +ℤ floor_half z +ℤ pos 2)
floor_above z = let h = floor_half z in omega (zarith, floor_parts z, add_parts h h, add_parts (h +ℤ h) (pos 2))

pub floor_only : (z h : ℤ) → (h +ℤ h) ≤ℤ z → z <ℤ (h +ℤ h +ℤ pos 2) → h ≡ floor_half z
floor_only z h below above =
    omega (zarith, floor_parts z, add_parts h h, add_parts (h +ℤ h) (pos 2), thin h, thin (floor_half z))

-- the two halves make up the number
pub halves : (z : ℤ) → z -ℤ floor_half z ≡ ceiling_half z
halves (pos zero) = refl
halves (pos (suc n)) = omega (zarith, sub_parts (pos (suc n)) (pos (suc n / 2)))
halves (negsuc n) = omega (zarith, sub_parts (negsuc n) (negsuc (n / 2)), neg_parts (pos (suc n / 2)))

pub ceiling_above : (z : ℤ) → z ≤ℤ (ceiling_half z +ℤ ceiling_half z)
ceiling_above z = let c = ceiling_half z in
    omega (zarith, floor_parts z, halves z, sub_parts z (floor_half z), add_parts c c)

pub ceiling_below : (z : ℤ) → (ceiling_half z +ℤ ceiling_half z) <ℤ (z +ℤ pos 2)
ceiling_below z = let c = ceiling_half z in
    omega (zarith, floor_parts z, halves z, sub_parts z (floor_half z), add_parts c c, add_parts z (pos 2))
