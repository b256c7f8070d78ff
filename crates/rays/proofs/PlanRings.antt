-- The rings of the plan that sound tables hold, edge by edge: ring r has the edges from where the ring before it ends, and all rings
-- together have the edges from 0 on. Assumes nothing.
use mathlib.Core.Path.{◌≡◌, refl, sym, ◌∙◌, ap, ap₂}
use mathlib.Core.Bool.{Bool, true, false, cond}
use mathlib.Core.List.{List, [], ◌∷◌, ◌++◌, map, map-append}
use Prim.Native.Nat.{ℕ, zero, suc, ◌+◌, ◌-◌, ◌*◌, ◌≤◌, ◌<◌}
use native.Mathlib.Omega.{arith}
use borrow.Author.Tests.{ltb-true, ltb-false}
use lib.Dec.{ltb}
use lib.IntN.{ℤ, pos}
use lib.ListN.{length, get_or, take, drop, length-append, length-drop, length-map}
use lib.Seq.{length-take-le, take-length, get_or-take, drop-drop}
use Rattle.geom.specs.declared.Point.{Point}
use Rattle.rules.specs.declared.State.{State}
use Rattle.rules.specs.Edges.{Edge, edges_from, edges_of, all_edges}
use Rattle.rules.specs.Lists.{parts_of, total}
use Rattle.rules.specs.Plans.{corners_of, corner_at, rings_of}
use Rattle.rules.specs.Replies.{doubled, doubled_edges}
use Rattle.rules.specs.Tables.{lengths_from, plan_of, PlanSound}
use Rattle.rules.proofs.Corners.{corners_length, corner_is}
use Rattle.rules.proofs.Indexed.{tabulate, tabulate_same, tabulate_part, edge_at, edges_by_number, all_corners, edge_starts}
use Rattle.rules.proofs.Verdicts.{even}
use Rattle.boxes.specs.Rings.{start_of, next_corner, edge_of, RingEnds}
use Rattle.boxes.proofs.PlanEdges.{plan_rings, plan_edge}
use Rattle.boxes.proofs.Rings.{start_suc, next_of_ring}

-- ---- the parts of a list by their number

-- where part r starts, if the first starts at `start`
from : ℕ → List ℕ → ℕ → ℕ
from start table zero = start
from start table (suc r) = get_or table r 0

from_next : (start end : ℕ) (table : List ℕ) (r : ℕ) → from start (end ∷ table) (suc r) ≡ from end table r
unfolding from
from_next start end table zero = refl
from_next start end table (suc r) = refl

part_at : {A : Type 0} (xs : List A) (start : ℕ) (table : List ℕ) (r : ℕ) → r < length table → ((q : ℕ) → q ≤ r → from start table q ≤ get_or table q 0)
    → get_or (parts_of (lengths_from start table) (drop start xs)) r [] ≡ take (get_or table r 0 - from start table r) (drop (from start table r) xs)
unfolding from parts_of lengths_from
part_at xs start [] r h rise = absurd (omega arith)
part_at xs start (end ∷ table) zero h rise = refl
part_at xs start (end ∷ table) (suc r) h rise =
    ap (λ l. get_or (parts_of (lengths_from end table) l) r []) (drop-drop (end - start) start xs ∙ ap (λ k. drop k xs) (let e : start + (end - start) ≡ end = omega (arith, rise 0 (omega arith)) in e))
    ∙ part_at xs end table r (omega arith) (λ q l. omega (arith, rise (suc q) (omega arith), from_next start end table q))
    ∙ ap (λ k. take (get_or table r 0 - k) (drop k xs)) (sym (from_next start end table r))

-- the corners of all parts
parts_length : (lengths : List ℕ) (xs : List Point) → total lengths ≤ length xs → length (all_corners (parts_of lengths xs)) ≡ total lengths
unfolding total parts_of all_corners
parts_length [] xs h = refl
parts_length (n ∷ lengths) xs h =
    length-append (take n xs) (all_corners (parts_of lengths (drop n xs)))
    ∙ ap₂ ◌+◌ (length-take-le n xs (omega arith)) (parts_length lengths (drop n xs) (omega (arith, length-drop n xs)))

-- ---- edges of corners put elsewhere
abbrev both_ends : (Point → Point) → Edge → Edge
both_ends f e = (f e.0, f e.1)

edges_from_map : (f : Point → Point) (first corner : Point) (rest : List Point) → edges_from (f first) (f corner) (map f rest) ≡ map (both_ends f) (edges_from first corner rest)
unfolding edges_from
edges_from_map f first corner [] = refl
edges_from_map f first corner (next ∷ rest) = ap (λ l. (f corner, f next) ∷ l) (edges_from_map f first next rest)

edges_map : (f : Point → Point) (ring : List Point) → edges_of (map f ring) ≡ map (both_ends f) (edges_of ring)
unfolding edges_of
edges_map f [] = refl
edges_map f (first ∷ rest) = edges_from_map f first first rest

all_edges_map : (f : Point → Point) (rings : List (List Point)) → all_edges (map (map f) rings) ≡ map (both_ends f) (all_edges rings)
unfolding all_edges
all_edges_map f [] = refl
all_edges_map f (ring ∷ rings) = ap₂ ◌++◌ (edges_map f ring) (all_edges_map f rings) ∙ sym (map-append (both_ends f) (edges_of ring) (all_edges rings))

map_tabulate : {A B : Type 0} (f : A → B) (g : ℕ → A) (n : ℕ) → map f (tabulate g n) ≡ tabulate (λ i. f (g i)) n
unfolding tabulate
map_tabulate f g zero = refl
map_tabulate f g (suc n) = ap (λ l. f (g 0) ∷ l) (map_tabulate f (λ i. g (suc i)) n)

-- ---- ring ends
module _ (n count : ℕ) (rings : List ℕ) (R : RingEnds n count rings) where
  end_within : (k r : ℕ) → r + k + 1 ≡ count → get_or rings r 0 ≤ n
  end_within zero r e = omega (arith, start_suc rings r, ap (start_of rings) (let f : r + 1 ≡ count = omega arith in f), R.all)
  end_within (suc k) r e = omega (arith, start_suc rings r, R.rise (r + 1) (omega arith), end_within k (r + 1) (omega arith))

  pub ring_within : (r : ℕ) → r < count → get_or rings r 0 ≤ n
  ring_within r h = end_within (count - r - 1) r (omega arith)

  -- the edge after edge i of ring r
  next_number : (r i : ℕ) → r < count → i < get_or rings r 0 - start_of rings r → start_of rings r + cond (ltb (suc i) (get_or rings r 0 - start_of rings r)) (suc i) 0 ≡ next_corner rings (start_of rings r + i)
  next_number r i h l =
      both (ltb (suc i) (end - start)) (ltb (start + i + 1) end) refl refl
      ∙ sym (next_of_ring n count rings R (start + i) r (record { ring = h; from = omega arith; to = omega arith }))
    where
      start : ℕ
      start = start_of rings r

      end : ℕ
      end = get_or rings r 0

      both : (t u : Bool) → ltb (suc i) (end - start) ≡ t → ltb (start + i + 1) end ≡ u → start + cond t (suc i) 0 ≡ cond u (start + i + 1) start
      both true true f g = omega arith
      both true false f g = absurd (omega (arith, ltb-true (suc i) (end - start) f, ltb-false (start + i + 1) end g))
      both false true f g = absurd (omega (arith, ltb-false (suc i) (end - start) f, ltb-true (start + i + 1) end g))
      both false false f g = omega arith

-- ---- the plan's rings and edges
module _ (state : State) (corners : List ℤ) (rings polygons : List ℕ) (sound : PlanSound state corners rings polygons) where
  R : RingEnds state.corners state.rings rings
  R = plan_rings state corners rings polygons sound

  coordinates_long : length (take (2 * state.corners) corners) ≡ 2 * state.corners
  coordinates_long = length-take-le (2 * state.corners) corners sound.corners_reach

  corners_long : length (corners_of (take (2 * state.corners) corners)) ≡ state.corners
  corners_long = omega (arith, corners_length (take (2 * state.corners) corners), coordinates_long)

  corner_read : (d : Point) (i : ℕ) → i < state.corners → get_or (corners_of (take (2 * state.corners) corners)) i d ≡ corner_at corners i
  corner_read d i h =
      corner_is (take (2 * state.corners) corners) i d (omega (arith, coordinates_long))
      ∙ (λ t. record { x = get_or-take (2 * state.corners) corners (2 * i) (pos 0) (omega arith) t; y = get_or-take (2 * state.corners) corners (2 * i + 1) (pos 0) (omega arith) t })

  module _ (r : ℕ) (h : r < state.rings) where
    taken : (q : ℕ) → q < state.rings → get_or (take state.rings rings) q 0 ≡ get_or rings q 0
    taken q l = get_or-take state.rings rings q 0 l

    from_start : (q : ℕ) → q < state.rings → from 0 (take state.rings rings) q ≡ start_of rings q
    unfolding from start_of
    from_start zero l = refl
    from_start (suc q) l = taken q (omega arith)

    -- ring r has the corners from where the ring before it ends
    pub ring_corners : get_or (rings_of (plan_of state corners rings polygons)) r [] ≡ tabulate (λ i. corner_at corners (start_of rings r + i)) (get_or rings r 0 - start_of rings r)
    unfolding plan_of rings_of
    ring_corners =
        let origin : Point = record { x = pos 0; y = pos 0 } in
        let cs = corners_of (take (2 * state.corners) corners) in
        part_at cs 0 (take state.rings rings) r (omega (arith, length-take-le state.rings rings sound.rings_reach)) (λ q l. omega (arith, from_start q (omega arith), taken q (omega arith), R.rise q (omega arith)))
        ∙ ap₂ (λ s e. take (e - s) (drop s cs)) (from_start r h) (taken r h)
        ∙ tabulate_part cs (start_of rings r) (get_or rings r 0 - start_of rings r) origin (omega (arith, corners_long, R.rise r h, ring_within state.corners state.rings rings R r h))
        ∙ tabulate_same (λ i. get_or cs (start_of rings r + i) origin) (λ i. corner_at corners (start_of rings r + i)) (get_or rings r 0 - start_of rings r) (λ i l. corner_read origin (start_of rings r + i) (omega (arith, ring_within state.corners state.rings rings R r h)))

    -- and the edges of those numbers
    pub ring_edges : edges_of (get_or (rings_of (plan_of state corners rings polygons)) r []) ≡ tabulate (λ i. edge_of corners rings (start_of rings r + i)) (get_or rings r 0 - start_of rings r)
    unfolding edge_of
    ring_edges =
        let corner : ℕ → Point = λ i. corner_at corners (start_of rings r + i) in
        ap edges_of ring_corners
        ∙ edges_by_number corner (get_or rings r 0 - start_of rings r)
        ∙ tabulate_same (edge_at corner (get_or rings r 0 - start_of rings r)) (λ i. edge_of corners rings (start_of rings r + i)) (get_or rings r 0 - start_of rings r)
        (λ i l t. (corner i, corner_at corners (next_number state.corners state.rings rings R r i h l t)))

  edges_long : length (all_edges (rings_of (plan_of state corners rings polygons))) ≡ state.corners
  unfolding plan_of rings_of
  edges_long =
      let plan = plan_of state corners rings polygons in
      let all : total (lengths_from 0 (take state.rings rings)) ≡ state.corners = omega (arith, (even plan sound.passes).corners, coordinates_long) in
      sym (length-map (all_edges (rings_of plan)) (λ e. e.0)) ∙ ap length (edge_starts (rings_of plan))
      ∙ parts_length (lengths_from 0 (take state.rings rings)) (corners_of (take (2 * state.corners) corners)) (omega (arith, corners_long))
      ∙ all

  -- all edges of the plan are those from 0 on
  pub all_edges_lem : all_edges (rings_of (plan_of state corners rings polygons)) ≡ tabulate (edge_of corners rings) state.corners
  all_edges_lem =
      let es = all_edges (rings_of (plan_of state corners rings polygons)) in
      let origin : Point = record { x = pos 0; y = pos 0 } in
      let d : Edge = (origin, origin) in
      sym (take-length es) ∙ ap (λ n. take n es) edges_long
      ∙ tabulate_part es 0 state.corners d (omega (arith, edges_long))
      ∙ tabulate_same (λ i. get_or es (0 + i) d) (edge_of corners rings) state.corners (λ i h. ap (λ k. get_or es k d) (let e : 0 + i ≡ i = omega arith in e) ∙ plan_edge state corners rings polygons sound i d h)

  pub all_doubled : doubled_edges (rings_of (plan_of state corners rings polygons)) ≡ tabulate (λ e. (doubled (edge_of corners rings e).0, doubled (edge_of corners rings e).1)) state.corners
  unfolding doubled_edges
  all_doubled = all_edges_map doubled (rings_of (plan_of state corners rings polygons)) ∙ ap (map (both_ends doubled)) all_edges_lem ∙ map_tabulate (both_ends doubled) (edge_of corners rings) state.corners
