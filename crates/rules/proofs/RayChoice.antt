-- Item 6's choice: the ray taken has the least distance, and less than every ray before it in the order right, left, up, down.
-- Assumes nothing.
use mathlib.Core.Bool.{Bool, cond}
use Prim.Native.Nat.{ℕ, suc}
use lib.IntN.{ℤ}
use lib.Signed.{◌≤ℤ◌, ◌<ℤ◌}
use Rattle.integers.proofs.Order.{zarith}
use Rattle.integers.proofs.Tests.{LeView, is_le, is_gt, le_view}
use Rattle.geom.specs.declared.Point.{Point}
use Rattle.geom.specs.declared.Rect.{Rect}
use Rattle.rules.specs.declared.Ray.{Ray}
use Rattle.rules.specs.declared.Ray.TheVariants.{Right, Left, Up, Down}
use Rattle.rules.specs.Rays.{distance, nearer, ray_of}

-- what it takes for a ray to be chosen, given the four distances
abbrev pub Chosen : ℤ → ℤ → ℤ → ℤ → Ray → Type 0
Chosen right left up down Right = (right ≤ℤ left) × (right ≤ℤ up) × (right ≤ℤ down)
Chosen right left up down Left = (left <ℤ right) × (left ≤ℤ up) × (left ≤ℤ down)
Chosen right left up down Up = (up <ℤ right) × (up <ℤ left) × (up ≤ℤ down)
Chosen right left up down Down = (down <ℤ right) × (down <ℤ left) × (down <ℤ up)

pub ray_chosen : (n : ℕ) (box : Rect) (p : Point) → Chosen (distance Right box p) (distance Left box p) (distance Up box p) (distance Down box p) (ray_of (suc n) box p)
ray_chosen n box p =
    go (le_view (distance Up box p) (distance Down box p)) (le_view (distance Left box p) (distance (nearer box p Up Down) box p))
    (le_view (distance Right box p) (distance (nearer box p Left (nearer box p Up Down)) box p))
  where
    go : {a b c : Bool}
        → LeView (distance Up box p) (distance Down box p) a
        → LeView (distance Left box p) (distance (cond a Up Down) box p) b
        → LeView (distance Right box p) (distance (cond b Left (cond a Up Down)) box p) c
        → Chosen (distance Right box p) (distance Left box p) (distance Up box p) (distance Down box p) (cond c Right (cond b Left (cond a Up Down)))
    go (is_le f) (is_le g) (is_le h) = omega zarith
    go (is_le f) (is_le g) (is_gt h) = omega zarith
    go (is_le f) (is_gt g) (is_le h) = omega zarith
    go (is_le f) (is_gt g) (is_gt h) = omega zarith
    go (is_gt f) (is_le g) (is_le h) = omega zarith
    go (is_gt f) (is_le g) (is_gt h) = omega zarith
    go (is_gt f) (is_gt g) (is_le h) = omega zarith
    go (is_gt f) (is_gt g) (is_gt h) = omega zarith
