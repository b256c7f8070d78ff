-- Distances to the root box's sides, compared as exact numbers. Assumes nothing.
use mathlib.Core.Path.{◌≡◌, refl, ap}
use mathlib.Core.Bool.{true, cond}
use Prim.Native.Nat.{ℕ}
use Rattle.geom.specs.declared.Point.{Point}
use Rattle.geom.specs.declared.Rect.{Rect}
use Rattle.geom.specs.Range.{in_range}
use Rattle.rules.specs.Rays.{ray_of}
use Rattle.rules.specs.Replies.{doubled}
use Rattle.rays.specs.Doubles.{doubled_rect, half_ray_of, near_doubled_rect}

-- ---- the half-grid: over a root box in range, and with no edges over any, the choice is the one over the doubled box
doubled_near : (box : Rect) → in_range box.min ≡ true → in_range box.max ≡ true → near_doubled_rect box ≡ doubled_rect box
doubled_near box e f = λ i. record { min = cond (e i) (doubled box.min) box.min; max = cond (f i) (doubled box.max) box.max }

pub half_ray : (n : ℕ) (box : Rect) (p : Point) → in_range box.min ≡ true → in_range box.max ≡ true → ray_of n (near_doubled_rect box) p ≡ half_ray_of n box p
half_ray n box p e f = ap (λ b. ray_of n b p) (doubled_near box e f)

pub half_ray_none : (box : Rect) (p : Point) → ray_of 0 (near_doubled_rect box) p ≡ half_ray_of 0 box p
half_ray_none box p = refl
