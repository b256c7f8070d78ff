-- Whole rings along a ray: on an edge, and what the edges add up to, tell the reply of item 3 and of item 7, whichever of the four rays
-- is taken. Assumes nothing.
use mathlib.Core.Path.{◌≡◌, refl, sym, ◌∙◌, ap, ap₂}
use mathlib.Core.Bool.{Bool, true, false, cond, ◌||◌}
use mathlib.Core.List.{List, [], ◌∷◌, map}
use Prim.Native.Nat.{suc}
use lib.IntN.{◌+ℤ◌}
use Rattle.geom.specs.declared.Point.{Point}
use Rattle.rules.specs.declared.Location.TheVariants.{Outside, Inside}
use Rattle.rules.specs.declared.Ray.{Ray}
use Rattle.rules.specs.Edges.{Edge, edges_of, winding, on_edge}
use Rattle.rules.specs.Lists.{any_of, count_of, sum_of, is_odd}
use Rattle.rules.specs.Rays.{winding_on}
use Rattle.rules.specs.Replies.{is_nonzero, ring_reply, doubled, doubled_edges, crosses, half_reply}
use Rattle.rules.proofs.FourRays.{off_first, off_rest, four_rays, four_rays_parity_all}
use Rattle.rings.specs.declared.crossings.Crossing.{Crossing}
use Rattle.rings.specs.Crossings.{is_on, weight_of}
use Rattle.rays.specs.Along.{crossing_along, is_crossed, place_by}
use Rattle.rays.proofs.EdgesAlong.{on_along, weight_along, crossed_along}

abbrev pub edge_along : Ray → Point → Edge → Crossing
edge_along ray p e = crossing_along ray e.0 e.1 p

-- ---- edge by edge
pub on_all : (ray : Ray) (es : List Edge) (p : Point) → any_of (λ e. is_on (edge_along ray p e)) es ≡ on_edge es p
unfolding any_of on_edge
on_all ray [] p = refl
on_all ray (e ∷ es) p = ap₂ ◌||◌ (on_along ray e.0 e.1 p) (on_all ray es p)

pub sum_all : (ray : Ray) (es : List Edge) (p : Point) → on_edge es p ≡ false → sum_of (λ e. weight_of (edge_along ray p e)) es ≡ sum_of (λ e. winding_on ray e.0 e.1 p) es
unfolding sum_of
sum_all ray [] p off = refl
sum_all ray (e ∷ es) p off = ap₂ ◌+ℤ◌ (weight_along ray e.0 e.1 p (off_first e es p off)) (sum_all ray es p (off_rest e es p off))

pub count_all : (ray : Ray) (es : List Edge) (p : Point) → on_edge es p ≡ false → count_of (λ e. is_crossed (edge_along ray p e)) es ≡ count_of (λ e. is_nonzero (winding_on ray e.0 e.1 p)) es
unfolding count_of
count_all ray [] p off = refl
count_all ray (e ∷ es) p off = ap₂ (λ b n. cond b (suc n) n) (crossed_along ray e.0 e.1 p (off_first e es p off)) (count_all ray es p (off_rest e es p off))

-- ---- a ring: the sum along each ray is its winding number
pub winding_along : (ray : Ray) (ring : List Point) (p : Point) → on_edge (edges_of ring) p ≡ false → sum_of (λ e. weight_of (edge_along ray p e)) (edges_of ring) ≡ winding ring p
winding_along ray ring p off = sum_all ray (edges_of ring) p off ∙ four_rays ray ring p off

-- the place that a flag and a second one tell, where the second counts only if the first is not set
by_flags : (on : Bool) (a b : Bool) → (on ≡ false → a ≡ b) → place_by on a ≡ place_by on b
by_flags true a b e = refl
by_flags false a b e = ap (λ inside. cond inside Inside Outside) (e refl)

pub ring_along : (ray : Ray) (ring : List Point) (p : Point)
    → ring_reply ring p ≡ place_by (any_of (λ e. is_on (edge_along ray p e)) (edges_of ring)) (is_nonzero (sum_of (λ e. weight_of (edge_along ray p e)) (edges_of ring)))
unfolding ring_reply
ring_along ray ring p =
    by_flags (on_edge (edges_of ring) p) (is_nonzero (winding ring p)) (is_nonzero (sum_of (λ e. weight_of (edge_along ray p e)) (edges_of ring))) (λ off. ap is_nonzero (sym (winding_along ray ring p off)))
    ∙ ap (λ on. place_by on (is_nonzero (sum_of (λ e. weight_of (edge_along ray p e)) (edges_of ring)))) (sym (on_all ray (edges_of ring) p))

-- ---- all edges of all rings, doubled: the parity along each ray is item 7's
pub parity_along : (ray : Ray) (rings : List (List Point)) (p : Point) → on_edge (doubled_edges rings) p ≡ false
    → is_odd (count_of (λ e. is_crossed (edge_along ray p e)) (doubled_edges rings)) ≡ is_odd (count_of (λ e. crosses e p) (doubled_edges rings))
unfolding doubled_edges
parity_along ray rings p off = ap is_odd (count_all ray (doubled_edges rings) p off) ∙ four_rays_parity_all ray (map (map doubled) rings) p off

pub half_along : (ray : Ray) (rings : List (List Point)) (p : Point)
    → half_reply rings p ≡ place_by (any_of (λ e. is_on (edge_along ray p e)) (doubled_edges rings)) (is_odd (count_of (λ e. is_crossed (edge_along ray p e)) (doubled_edges rings)))
unfolding half_reply
half_along ray rings p =
    by_flags (on_edge (doubled_edges rings) p) (is_odd (count_of (λ e. crosses e p) (doubled_edges rings))) (is_odd (count_of (λ e. is_crossed (edge_along ray p e)) (doubled_edges rings))) (λ off. sym (parity_along ray rings p off))
    ∙ ap (λ on. place_by on (is_odd (count_of (λ e. is_crossed (edge_along ray p e)) (doubled_edges rings)))) (sym (on_all ray (doubled_edges rings) p))
