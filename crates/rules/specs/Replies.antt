-- Where a point lies in a ring, a polygon, a list and a tree, and on the half-grid (document 01, items 3, 4 and 7).
use Rattle.std.specs.Prelude.{Bool, not, cond, List, [], ◌∷◌, map, ℤ, pos, ◌*ℤ◌}
use Rattle.integers.specs.Signs.{sign_of, is_zero}
use Rattle.geom.specs.declared.Point.{Point}
use Rattle.rules.specs.declared.Location.{Location}
use Rattle.rules.specs.declared.Location.TheVariants.{Outside, Inside, OnBoundary}
use Rattle.rules.specs.Lists.{any_of, count_of, is_odd}
use Rattle.rules.specs.Edges.{Edge, edges_of, all_edges, edge_winding, winding, on_edge}

abbrev pub is_nonzero : ℤ → Bool
is_nonzero z = not (is_zero (sign_of z))

-- item 3: nonzero winding is inside
unfoldable pub ring_reply : List Point → Point → Location
ring_reply ring p = cond (on_edge (edges_of ring) p) OnBoundary (cond (is_nonzero (winding ring p)) Inside Outside)

-- item 4: not inside the outer ring: that reply holds
abbrev pub within_outer : Location → Location → Location
within_outer Outside holes = Outside
within_outer Inside holes = holes
within_outer OnBoundary holes = OnBoundary

-- item 4: inside the deciding hole means outside, its boundary means boundary; a hole that the point is outside of decides nothing
abbrev pub by_hole : Location → Location → Location
by_hole Outside later = later
by_hole Inside later = Outside
by_hole OnBoundary later = OnBoundary

-- item 4: the first hole that is not outside decides
unfoldable pub holes_reply : List (List Point) → Point → Location
holes_reply [] p = Inside
holes_reply (hole ∷ later) p = by_hole (ring_reply hole p) (holes_reply later p)

-- item 4: a polygon is its outer ring and then its holes
unfoldable pub polygon_reply : List (List Point) → Point → Location
polygon_reply [] p = Outside
polygon_reply (outer ∷ holes) p = within_outer (ring_reply outer p) (holes_reply holes p)

-- item 4: inside any polygon wins, then boundary, then outside
abbrev pub stronger : Location → Location → Location
stronger Outside other = other
stronger Inside other = Inside
stronger OnBoundary Outside = OnBoundary
stronger OnBoundary Inside = Inside
stronger OnBoundary OnBoundary = OnBoundary

unfoldable pub list_reply : List (List (List Point)) → Point → Location
list_reply [] p = Outside
list_reply (polygon ∷ later) p = stronger (polygon_reply polygon p) (list_reply later p)

-- item 4: any boundary hit is boundary; otherwise inside exactly if an odd number of rings have nonzero winding
unfoldable pub tree_reply : List (List Point) → Point → Location
tree_reply rings p =
    cond (any_of (λ ring. on_edge (edges_of ring) p) rings) OnBoundary
    (cond (is_odd (count_of (λ ring. is_nonzero (winding ring p)) rings)) Inside Outside)

abbrev pub doubled : Point → Point
doubled p = record { x = pos 2 *ℤ p.x; y = pos 2 *ℤ p.y }

-- item 7: all edges of all rings, corners doubled
unfoldable pub doubled_edges : List (List Point) → List Edge
doubled_edges rings = all_edges (map (map doubled) rings)

-- item 7: an edge that gets +1 or −1
abbrev pub crosses : Edge → Point → Bool
crosses e p = is_nonzero (edge_winding e.0 e.1 p)

-- item 7: on any edge is boundary; otherwise inside exactly if an odd number of edges get +1 or −1
unfoldable pub half_reply : List (List Point) → Point → Location
half_reply rings p =
    cond (on_edge (doubled_edges rings) p) OnBoundary
    (cond (is_odd (count_of (λ e. crosses e p) (doubled_edges rings))) Inside Outside)
