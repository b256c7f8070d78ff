-- A slot: what the edges met so far say of one ring, in one number (document 01, item 3).
use Rattle.std.specs.Prelude.{Bool, true, false, cond, ◌^◌, ℤ, pos, ◌+ℤ◌}
use Rattle.geom.specs.Range.{within}
use Rattle.rules.specs.declared.Location.{Location}
use Rattle.rules.specs.declared.Location.TheVariants.{Outside, Inside, OnBoundary}
use Rattle.rules.specs.Replies.{is_nonzero}
use Rattle.rings.specs.declared.crossings.Crossing.{Crossing}
use Rattle.rings.specs.declared.crossings.Crossing.TheVariants.{Nothing, Up, Down, On}
use Rattle.rings.specs.Crossings.{is_on, weight_of}

abbrev pub is_nothing : Crossing → Bool
is_nothing Nothing = true
is_nothing Up = false
is_nothing Down = false
is_nothing On = false

-- the point is on an edge of the ring
abbrev pub boundary : ℤ
boundary = pos (2 ^ 62)

-- the winding so far, or that the point is on an edge
abbrev pub slot_of : ℤ → Bool → ℤ
slot_of winding on = cond on boundary winding

-- with one edge more
abbrev pub counted_of : ℤ → Crossing → ℤ
counted_of slot crossing = cond (within (2 ^ 61) slot) (cond (is_on crossing) boundary (slot +ℤ weight_of crossing)) boundary

-- item 3: on an edge is on the boundary; otherwise nonzero winding is inside
abbrev pub place_of : ℤ → Location
place_of slot = cond (within (2 ^ 61) slot) (cond (is_nonzero slot) Inside Outside) OnBoundary
