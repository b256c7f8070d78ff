-- A coordinate is within a bound exactly if its size is at most the bound. Assumes nothing.
use mathlib.Core.Path.{◌≡◌}
use mathlib.Core.Bool.{true, ◌&&◌}
use Prim.Native.Nat.{ℕ, ◌≤◌}
use lib.IntN.{ℤ, pos, neg_ℤ, nat_abs}
use lib.Signed.{le_z}
use Rattle.integers.proofs.Order.{zarith, neg_parts, abs_parts, thin}
use Rattle.integers.proofs.Tests.{and_true, le_true, true_le}
use Rattle.geom.specs.Range.{within}

pub near : (bound : ℕ) (z : ℤ) → within bound z ≡ true → nat_abs z ≤ bound
near bound z e =
    let h = and_true (le_z (neg_ℤ (pos bound)) z) (le_z z (pos bound)) e in
    omega (zarith, true_le (neg_ℤ (pos bound)) z h.0, true_le z (pos bound) h.1, neg_parts (pos bound), abs_parts z, thin z)

pub near_within : (bound : ℕ) (z : ℤ) → nat_abs z ≤ bound → within bound z ≡ true
near_within bound z h =
    λ i. le_true (neg_ℤ (pos bound)) z (omega (zarith, neg_parts (pos bound), abs_parts z)) i && le_true z (pos bound) (omega (zarith, abs_parts z)) i
