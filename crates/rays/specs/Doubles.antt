-- The half-grid's choice of ray: item 6's, over the doubled root box (document 01, items 6 and 7).
use Rattle.std.specs.Prelude.{ℕ}
use Rattle.geom.specs.declared.Point.{Point}
use Rattle.geom.specs.declared.Rect.{Rect}
use Rattle.rules.specs.declared.Ray.{Ray}
use Rattle.rules.specs.Rays.{ray_of}
use Rattle.rules.specs.Replies.{doubled}
use Rattle.rings.specs.Half.{near_doubled}

abbrev pub doubled_rect : Rect → Rect
doubled_rect box = record { min = doubled box.min; max = doubled box.max }

abbrev pub half_ray_of : ℕ → Rect → Point → Ray
half_ray_of n root p = ray_of n (doubled_rect root) p

-- a box with those of its corners doubled that are in range
abbrev pub near_doubled_rect : Rect → Rect
near_doubled_rect box = record { min = near_doubled box.min; max = near_doubled box.max }
