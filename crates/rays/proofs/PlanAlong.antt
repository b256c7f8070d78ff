-- Look-ups over sound tables: ring r's reply is told by its edges' numbers along each of the four rays, the half-grid's by all of them,
-- and an edge whose box misses the ray's rectangle counts for nothing. Assumes nothing.
use mathlib.Core.Path.{◌≡◌, refl, sym, ◌∙◌, ap, ap₂}
use mathlib.Core.Bool.{Bool, true, false, cond}
use mathlib.Core.List.{List, []}
use Prim.Native.Nat.{ℕ, ◌+◌, ◌-◌, ◌<◌}
use native.Mathlib.Omega.{arith}
use borrow.Author.Tests.{lt-ltb, ltb-true}
use lib.Dec.{ltb}
use lib.IntN.{ℤ}
use lib.ListN.{get_or}
use Rattle.geom.specs.declared.Point.{Point}
use Rattle.geom.specs.declared.Rect.{Rect}
use Rattle.geom.specs.Boxes.{meets}
use Rattle.rules.specs.declared.Ray.{Ray}
use Rattle.rules.specs.declared.State.{State}
use Rattle.rules.specs.Edges.{Edge}
use Rattle.rules.specs.Lists.{any_of, count_of, sum_of, is_odd}
use Rattle.rules.specs.Plans.{rings_of}
use Rattle.rules.specs.Replies.{is_nonzero, ring_reply, doubled, half_reply}
use Rattle.rules.specs.Tables.{plan_of, PlanSound}
use Rattle.rules.proofs.Indexed.{tabulate, tabulate_same, sum_to, any_to, count_to, sum_tabulate, any_tabulate, count_tabulate}
use Rattle.boxes.specs.Boxes.{edge_box}
use Rattle.boxes.specs.Rings.{start_of, edge_of, RingEnds, CornersNear}
use Rattle.boxes.proofs.PlanEdges.{plan_rings, plan_corners}
use Rattle.boxes.proofs.Rings.{next_inside}
use Rattle.rings.specs.declared.crossings.Crossing.{Crossing}
use Rattle.rings.specs.declared.crossings.Crossing.TheVariants.{Nothing}
use Rattle.rings.specs.Crossings.{is_on, weight_of}
use Rattle.rings.specs.Half.{near_doubled}
use Rattle.rays.specs.Along.{crossing_along, is_crossed, place_by}
use Rattle.rays.specs.Numbered.{crossing_at, half_crossing_at, InRoot}
use Rattle.rays.specs.Reach.{ray_rect, half_rect}
use Rattle.rays.proofs.PlanRings.{ring_edges, ring_within, all_doubled}
use Rattle.rays.proofs.Pruned.{pruned, half_pruned, near_doubled_lem}
use Rattle.rays.proofs.Whole.{edge_along, ring_along, half_along}

-- ---- one edge by its number
module _ (n : ℕ) (corners : List ℤ) (rings : List ℕ) (ray : Ray) (p : Point) where
  pub crossing_is : (e : ℕ) → e < n → crossing_at n corners rings ray p e ≡ crossing_along ray (edge_of corners rings e).0 (edge_of corners rings e).1 p
  unfolding crossing_at
  crossing_is e h = ap (λ b. cond b (crossing_along ray (edge_of corners rings e).0 (edge_of corners rings e).1 p) Nothing) (lt-ltb e n h)

  pub half_crossing_is : (e : ℕ) → e < n → half_crossing_at n corners rings ray p e ≡ crossing_along ray (near_doubled (edge_of corners rings e).0) (near_doubled (edge_of corners rings e).1) p
  unfolding half_crossing_at
  half_crossing_is e h = ap (λ b. cond b (crossing_along ray (near_doubled (edge_of corners rings e).0) (near_doubled (edge_of corners rings e).1) p) Nothing) (lt-ltb e n h)

  -- an edge that boxes leave out
  pub missed_at : (root : Rect) → InRoot n corners rings root → (e : ℕ) → meets (edge_box corners rings e) (ray_rect ray root p) ≡ false → crossing_at n corners rings ray p e ≡ Nothing
  unfolding crossing_at edge_box
  missed_at root inside e miss = go (ltb e n) refl
    where
      go : (b : Bool) → ltb e n ≡ b → cond b (crossing_along ray (edge_of corners rings e).0 (edge_of corners rings e).1 p) Nothing ≡ Nothing
      go true h = pruned ray root (edge_of corners rings e).0 (edge_of corners rings e).1 p (inside e (ltb-true e n h)) miss
      go false h = refl

  -- ---- over corners in range
  module _ (count : ℕ) (R : RingEnds n count rings) (N : CornersNear n corners) where
    near_ends : (e : ℕ) → e < n → (near_doubled (edge_of corners rings e).0 ≡ doubled (edge_of corners rings e).0) × (near_doubled (edge_of corners rings e).1 ≡ doubled (edge_of corners rings e).1)
    unfolding edge_of
    near_ends e h = (near_doubled_lem (edge_of corners rings e).0 (N.near e h), near_doubled_lem (edge_of corners rings e).1 (N.near _ (next_inside n count rings R e h)))

    pub half_crossing_doubled : (e : ℕ) → e < n → half_crossing_at n corners rings ray p e ≡ crossing_along ray (doubled (edge_of corners rings e).0) (doubled (edge_of corners rings e).1) p
    half_crossing_doubled e h = let near = near_ends e h in half_crossing_is e h ∙ (λ i. crossing_along ray (near.0 i) (near.1 i) p)

    beyond : (e : ℕ) → ltb e n ≡ false → half_crossing_at n corners rings ray p e ≡ Nothing
    unfolding half_crossing_at
    beyond e h = ap (λ b. cond b (crossing_along ray (near_doubled (edge_of corners rings e).0) (near_doubled (edge_of corners rings e).1) p) Nothing) h

    pub half_missed_at : (root : Rect) → InRoot n corners rings root → (e : ℕ) → meets (edge_box corners rings e) (half_rect ray root p) ≡ false → half_crossing_at n corners rings ray p e ≡ Nothing
    unfolding edge_box
    half_missed_at root inside e miss = go (ltb e n) refl
      where
        go : (b : Bool) → ltb e n ≡ b → half_crossing_at n corners rings ray p e ≡ Nothing
        go true h = half_crossing_doubled e (ltb-true e n h) ∙ half_pruned ray root (edge_of corners rings e).0 (edge_of corners rings e).1 p (inside e (ltb-true e n h)) miss
        go false h = beyond e h

-- ---- edges in a row: what they add up to, by their crossings
module _ (ray : Ray) (p : Point) (edge : ℕ → Edge) (crossing : ℕ → Crossing) (n : ℕ) (same : (i : ℕ) → i < n → edge_along ray p (edge i) ≡ crossing i) where
  crossings : tabulate (λ i. edge_along ray p (edge i)) n ≡ tabulate crossing n
  crossings = tabulate_same (λ i. edge_along ray p (edge i)) crossing n same

  sum_row : sum_of (λ e. weight_of (edge_along ray p e)) (tabulate edge n) ≡ sum_to (λ i. weight_of (crossing i)) n
  sum_row = sum_tabulate (λ e. weight_of (edge_along ray p e)) edge n ∙ sym (sum_tabulate weight_of (λ i. edge_along ray p (edge i)) n) ∙ ap (sum_of weight_of) crossings ∙ sum_tabulate weight_of crossing n

  any_row : any_of (λ e. is_on (edge_along ray p e)) (tabulate edge n) ≡ any_to (λ i. is_on (crossing i)) n
  any_row = any_tabulate (λ e. is_on (edge_along ray p e)) edge n ∙ sym (any_tabulate is_on (λ i. edge_along ray p (edge i)) n) ∙ ap (any_of is_on) crossings ∙ any_tabulate is_on crossing n

  count_row : count_of (λ e. is_crossed (edge_along ray p e)) (tabulate edge n) ≡ count_to (λ i. is_crossed (crossing i)) n
  count_row = count_tabulate (λ e. is_crossed (edge_along ray p e)) edge n ∙ sym (count_tabulate is_crossed (λ i. edge_along ray p (edge i)) n) ∙ ap (count_of is_crossed) crossings ∙ count_tabulate is_crossed crossing n

-- ---- whole look-ups
module _ (state : State) (corners : List ℤ) (rings polygons : List ℕ) (sound : PlanSound state corners rings polygons) (ray : Ray) (p : Point) where
  R : RingEnds state.corners state.rings rings
  R = plan_rings state corners rings polygons sound

  -- ring r's reply, by the sum and the flag over its edges, from the number of its first on
  pub ring_reply_along : (r : ℕ) → r < state.rings
      → ring_reply (get_or (rings_of (plan_of state corners rings polygons)) r []) p
      ≡ place_by (any_to (λ i. is_on (crossing_at state.corners corners rings ray p (start_of rings r + i))) (get_or rings r 0 - start_of rings r))
      (is_nonzero (sum_to (λ i. weight_of (crossing_at state.corners corners rings ray p (start_of rings r + i))) (get_or rings r 0 - start_of rings r)))
  ring_reply_along r h =
      let ring = get_or (rings_of (plan_of state corners rings polygons)) r [] in
      let size = get_or rings r 0 - start_of rings r in
      let edge : ℕ → Edge = λ i. edge_of corners rings (start_of rings r + i) in
      let crossing : ℕ → Crossing = λ i. crossing_at state.corners corners rings ray p (start_of rings r + i) in
      let same : (i : ℕ) → i < size → edge_along ray p (edge i) ≡ crossing i = λ i l. sym (crossing_is state.corners corners rings ray p (start_of rings r + i) (omega (arith, R.rise r h, ring_within state.corners state.rings rings R r h))) in
      ring_along ray ring p
      ∙ ap (λ es. place_by (any_of (λ e. is_on (edge_along ray p e)) es) (is_nonzero (sum_of (λ e. weight_of (edge_along ray p e)) es))) (ring_edges state corners rings polygons sound r h)
      ∙ ap₂ (λ on w. place_by on (is_nonzero w)) (any_row ray p edge crossing size same) (sum_row ray p edge crossing size same)

  -- the half-grid's reply, by the parity and the flag over all edges
  pub half_reply_along :
      half_reply (rings_of (plan_of state corners rings polygons)) p
      ≡ place_by (any_to (λ e. is_on (half_crossing_at state.corners corners rings ray p e)) state.corners) (is_odd (count_to (λ e. is_crossed (half_crossing_at state.corners corners rings ray p e)) state.corners))
  half_reply_along =
      let n = state.corners in
      let edge : ℕ → Edge = λ e. (doubled (edge_of corners rings e).0, doubled (edge_of corners rings e).1) in
      let crossing : ℕ → Crossing = half_crossing_at n corners rings ray p in
      let same : (e : ℕ) → e < n → edge_along ray p (edge e) ≡ crossing e = λ e h. sym (half_crossing_doubled n corners rings ray p state.rings R (plan_corners state corners rings polygons sound) e h) in
      half_along ray (rings_of (plan_of state corners rings polygons)) p
      ∙ ap (λ es. place_by (any_of (λ e. is_on (edge_along ray p e)) es) (is_odd (count_of (λ e. is_crossed (edge_along ray p e)) es))) (all_doubled state corners rings polygons sound)
      ∙ ap₂ (λ on k. place_by on (is_odd k)) (any_row ray p edge crossing n same) (count_row ray p edge crossing n same)
