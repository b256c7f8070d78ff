-- How much of a plan a text gives, counted as it is read (document 02, R-1).
use Rattle.std.specs.Prelude.{Bool, true, false, ◌&&◌, List, ℕ, ◌+◌, ◌≤◌, length, Option, Some, None}
use Rattle.geom.specs.declared.Point.{Point}
use Rattle.rules.specs.Lists.{total}
use Rattle.grammar.specs.Grammar.{Polygon}
use Rattle.grammar.specs.Plans.{same_point, ring_lengths, lengths, counts, all_closed, every_closed}
use Rattle.scanner.specs.declared.Extent.{Extent}

-- nothing yet
abbrev pub no_extent : Extent
no_extent = record { corners = 0; rings = 0; polygons = 0; closed = true }

-- with a ring of so many corners
abbrev pub with_ring : Extent → ℕ → Bool → Extent
with_ring e count closed = record { corners = e.corners + count; rings = e.rings + 1; polygons = e.polygons; closed = e.closed && closed }

-- with these rings of a polygon that is not ended
abbrev pub with_rings : Extent → Polygon → Extent
with_rings e rings = record { corners = e.corners + total (ring_lengths rings); rings = e.rings + length rings; polygons = e.polygons; closed = e.closed && all_closed rings }

-- with the polygon that they are
abbrev pub with_polygon : Extent → Extent
with_polygon e = record { corners = e.corners; rings = e.rings; polygons = e.polygons + 1; closed = e.closed }

-- with these polygons
abbrev pub with_all : Extent → List Polygon → Extent
with_all e polygons = record { corners = e.corners + total (lengths polygons); rings = e.rings + length (lengths polygons); polygons = e.polygons + length (counts polygons); closed = e.closed && every_closed polygons }

-- no count is greater than this
pub record Counted (e : Extent) (most : ℕ) : Type 0 where
  pub corners : e.corners ≤ most
  pub rings : e.rings ≤ most
  pub polygons : e.polygons ≤ most

-- whether a last position closes a ring with this first one
abbrev pub closes : Option Point → Point → Bool
closes None p = false
closes (Some first) p = same_point first p
