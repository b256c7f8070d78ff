-- The rectangle that a ray crosses from a point to the root box's side, on either grid (document 01, items 6 and 7).
use Rattle.integers.specs.Extremes.{min_z, max_z}
use Rattle.integers.specs.Halves.{floor_half, ceiling_half}
use Rattle.geom.specs.declared.Point.{Point}
use Rattle.geom.specs.declared.Rect.{Rect}
use Rattle.rules.specs.declared.Ray.{Ray}
use Rattle.rules.specs.declared.Ray.TheVariants.{Right, Left, Up, Down}

-- the box from low to high, one of its sides moved along the ray to the root box's side, and none moved back
abbrev pub stretched : Ray → Rect → Point → Point → Rect
stretched Right root low high = record { min = low; max = record { x = max_z root.max.x high.x; y = high.y } }
stretched Left root low high = record { min = record { x = min_z root.min.x low.x; y = low.y }; max = high }
stretched Up root low high = record { min = low; max = record { x = high.x; y = max_z root.max.y high.y } }
stretched Down root low high = record { min = record { x = low.x; y = min_z root.min.y low.y }; max = high }

-- from the point itself
abbrev pub ray_rect : Ray → Rect → Point → Rect
ray_rect ray root p = stretched ray root p p

-- item 7: the halves of a doubled point, by floor and by ceiling
abbrev pub floor_point : Point → Point
floor_point p = record { x = floor_half p.x; y = floor_half p.y }

abbrev pub ceiling_point : Point → Point
ceiling_point p = record { x = ceiling_half p.x; y = ceiling_half p.y }

-- from the halves of a doubled point, rounded outwards
abbrev pub half_rect : Ray → Rect → Point → Rect
half_rect ray root p = stretched ray root (floor_point p) (ceiling_point p)
