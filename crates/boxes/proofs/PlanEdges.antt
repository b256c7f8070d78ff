-- The tables of a sound plan: their ends rise, their corners are in range, and edge i by the tables is the plan's edge i.
-- Assumes nothing.
use mathlib.Core.Path.{◌≡◌, refl, sym, ◌∙◌, ap}
use mathlib.Core.Bool.{Bool, true, false, cond}
use mathlib.Core.List.{List, [], ◌∷◌, ◌++◌}
use Prim.Native.Nat.{ℕ, zero, suc, ◌+◌, ◌-◌, ◌*◌, ◌≤◌, ◌<◌}
use native.Mathlib.Decide.{dec_lt}
use native.Mathlib.Omega.{arith}
use borrow.Author.Tests.{lt-ltb, le-ltb, ltb-true, ltb-false}
use lib.Dec.{ltb}
use lib.IntN.{ℤ, pos}
use lib.ListN.{length, get_or, take, drop, get_or-append}
use lib.Seq.{length-take-le, get_or-take, drop-drop, get_or-append-add}
use Rattle.geom.specs.declared.Point.{Point}
use Rattle.geom.specs.Range.{in_range}
use Rattle.rules.specs.declared.State.{State}
use Rattle.rules.specs.Edges.{Edge, edges_of, all_edges}
use Rattle.rules.specs.Lists.{parts_of, total}
use Rattle.rules.specs.Plans.{corners_of, corner_at, rings_of, plan_in_range}
use Rattle.rules.specs.Tables.{ends_from, lengths_from, plan_of, PlanSound}
use Rattle.rules.proofs.Corners.{corners_length, near_at, corner_is}
use Rattle.rules.proofs.Indexed.{tabulate_at, tabulate_length, tabulate_part, edge_at, edges_by_number}
use Rattle.rules.proofs.Verdicts.{accepted_passes, few, even}
use Rattle.boxes.proofs.Rings.{next_inside}
use Rattle.boxes.specs.Rings.{start_of, next_in, next_from, next_corner, edge_of, RingEnds, CornersNear}

-- ---- ends that rise from `start` on, and the last of them
Rises : ℕ → List ℕ → Type 0
Rises start [] = Unit {0}
Rises start (end ∷ rings) = (start ≤ end) × Rises end rings

last_of : ℕ → List ℕ → ℕ
last_of start [] = start
last_of start (end ∷ rings) = last_of end rings

head : ℕ → List ℕ → ℕ
head d [] = d
head d (x ∷ xs) = x

tail : List ℕ → List ℕ
tail [] = []
tail (x ∷ xs) = xs

-- sums so far rise to the sum of all
sums_rise : (start : ℕ) (rings : List ℕ) → ends_from start (lengths_from start rings) ≡ rings → Rises start rings × (last_of start rings ≡ start + total (lengths_from start rings))
unfolding Rises last_of total ends_from lengths_from head tail
sums_rise start [] e = (tt, omega arith)
sums_rise start (end ∷ rings) e =
    let here : start + (end - start) ≡ end = ap (head 0) e in
    let rest : ends_from end (lengths_from end rings) ≡ rings = ap (λ s. ends_from s (lengths_from end rings)) (sym here) ∙ ap tail e in
    let ih = sums_rise end rings rest in
    ((omega arith, ih.0), omega (arith, ih.1))

rises_last : (start : ℕ) (rings : List ℕ) → Rises start rings → start ≤ last_of start rings
unfolding Rises last_of
rises_last start [] r = omega arith
rises_last start (end ∷ rings) r = let h = rises_last end rings r.1 in omega arith

-- ---- the same by place
rise_at : (start : ℕ) (rings : List ℕ) → Rises start rings → (r : ℕ) → suc r < length rings → get_or rings r 0 ≤ get_or rings (suc r) 0
unfolding Rises
rise_at start [] h r l = absurd (omega arith)
rise_at start (end ∷ []) h r l = absurd (omega arith)
rise_at start (end ∷ next ∷ rings) h zero l = h.1.0
rise_at start (end ∷ next ∷ rings) h (suc r) l = rise_at end (next ∷ rings) h.1 r (omega arith)

last_at : (start : ℕ) (rings : List ℕ) (r : ℕ) → length rings ≡ suc r → get_or rings r 0 ≡ last_of start rings
unfolding last_of
last_at start [] r h = absurd (omega arith)
last_at start (end ∷ []) zero h = refl
last_at start (end ∷ []) (suc r) h = absurd (omega arith)
last_at start (end ∷ next ∷ rings) zero h = absurd (omega arith)
last_at start (end ∷ next ∷ rings) (suc r) h = last_at end (next ∷ rings) r (omega arith)

no_rings : (rings : List ℕ) → last_of 0 (take 0 rings) ≡ 0
unfolding last_of
no_rings rings = refl

-- ---- edges of rising rings, by number
module _ (corners : List Point) (d : Edge) (p : Point) where
  -- within one ring
  ring_edge : (start end e : ℕ) → start ≤ e → e < end → end ≤ length corners
      → get_or (edges_of (take (end - start) (drop start corners))) (e - start) d ≡ (get_or corners e p, get_or corners (next_in start end e) p)
  ring_edge start end e a b c =
      ap (λ ring. get_or (edges_of ring) (e - start) d) (tabulate_part corners start (end - start) p (omega arith))
      ∙ ap (λ es. get_or es (e - start) d) (edges_by_number (λ i. get_or corners (start + i) p) (end - start))
      ∙ tabulate_at (edge_at (λ i. get_or corners (start + i) p) (end - start)) (end - start) (e - start) d (omega arith)
      ∙ (λ i. (get_or corners (whole i) p, last i))
    where
      whole : start + (e - start) ≡ e
      whole = omega arith

      both : (s t : Bool) → ltb (suc (e - start)) (end - start) ≡ s → ltb (e + 1) end ≡ t → start + cond s (suc (e - start)) 0 ≡ cond t (e + 1) start
      both true true f g = omega arith
      both true false f g = absurd (omega (arith, ltb-true (suc (e - start)) (end - start) f, ltb-false (e + 1) end g))
      both false true f g = absurd (omega (arith, ltb-false (suc (e - start)) (end - start) f, ltb-true (e + 1) end g))
      both false false f g = omega arith

      last : get_or corners (start + cond (ltb (suc (e - start)) (end - start)) (suc (e - start)) 0) p ≡ get_or corners (next_in start end e) p
      last = ap (λ k. get_or corners k p) (both (ltb (suc (e - start)) (end - start)) (ltb (e + 1) end) refl refl)

  ring_length_lem : (start end : ℕ) → start ≤ end → end ≤ length corners → length (edges_of (take (end - start) (drop start corners))) ≡ end - start
  ring_length_lem start end a c =
      ap (λ ring. length (edges_of ring)) (tabulate_part corners start (end - start) p (omega arith))
      ∙ ap length (edges_by_number (λ i. get_or corners (start + i) p) (end - start))
      ∙ tabulate_length (edge_at (λ i. get_or corners (start + i) p) (end - start)) (end - start)

  edge_at_lem : (start : ℕ) (rings : List ℕ) (e : ℕ) → Rises start rings → last_of start rings ≤ length corners → start ≤ e → e < last_of start rings
      → get_or (all_edges (parts_of (lengths_from start rings) (drop start corners))) (e - start) d ≡ (get_or corners e p, get_or corners (next_from start rings e) p)
  unfolding Rises last_of lengths_from parts_of all_edges next_from
  edge_at_lem start [] e r c a b = absurd (omega arith)
  edge_at_lem start (end ∷ rings) e r c a b = go (dec_lt e end) (edge_at_lem end rings e r.1 c)
    where
      ring : List Edge
      ring = edges_of (take (end - start) (drop start corners))

      others : List Edge
      others = all_edges (parts_of (lengths_from end rings) (drop (end - start) (drop start corners)))

      reach : end ≤ length corners
      reach = omega (arith, rises_last end rings r.1)

      go : Dec (e < end) → (end ≤ e → e < last_of end rings → get_or (all_edges (parts_of (lengths_from end rings) (drop end corners))) (e - end) d ≡ (get_or corners e p, get_or corners (next_from end rings e) p))
          → get_or (ring ++ others) (e - start) d ≡ (get_or corners e p, get_or corners (cond (ltb e end) (next_in start end e) (next_from end rings e)) p)
      go (yes h) ih =
          get_or-append ring others d (e - start) (omega (arith, ring_length_lem start end r.0 reach))
          ∙ ring_edge start end e a h reach
          ∙ ap (λ t. (get_or corners e p, get_or corners (cond t (next_in start end e) (next_from end rings e)) p)) (sym (lt-ltb e end h))
      go (no h) ih =
          let split : e - start ≡ length ring + (e - end) = omega (arith, ring_length_lem start end r.0 reach) in
          let where_end : start + (end - start) ≡ end = omega (arith, r.0) in
          ap (λ k. get_or (ring ++ others) k d) split
          ∙ get_or-append-add ring others (e - end) d
          ∙ ap (λ l. get_or (all_edges (parts_of (lengths_from end rings) l)) (e - end) d) (drop-drop (end - start) start corners ∙ ap (λ k. drop k corners) where_end)
          ∙ ih (omega arith) b
          ∙ ap (λ t. (get_or corners e p, get_or corners (cond t (next_in start end e) (next_from end rings e)) p)) (sym (le-ltb e end (omega arith)))

-- the entries past the rings are not looked at
next_take : (count start : ℕ) (rings : List ℕ) (e : ℕ) → start ≤ e → e < last_of start (take count rings) → next_from start (take count rings) e ≡ next_from start rings e
unfolding last_of next_from
next_take zero start rings e a b = absurd (omega arith)
next_take (suc count) start [] e a b = refl
next_take (suc count) start (end ∷ rings) e a b = go (ltb e end) refl (next_take count end rings e)
  where
    go : (t : Bool) → ltb e end ≡ t → (end ≤ e → e < last_of end (take count rings) → next_from end (take count rings) e ≡ next_from end rings e)
        → cond t (next_in start end e) (next_from end (take count rings) e) ≡ cond t (next_in start end e) (next_from end rings e)
    go true h ih = refl
    go false h ih = ih (ltb-false e end h) b

module _ (state : State) (corners : List ℤ) (rings polygons : List ℕ) (sound : PlanSound state corners rings polygons) where
  coordinates_long : length (take (2 * state.corners) corners) ≡ 2 * state.corners
  coordinates_long = length-take-le (2 * state.corners) corners sound.corners_reach

  corners_long : length (corners_of (take (2 * state.corners) corners)) ≡ state.corners
  corners_long = omega (arith, corners_length (take (2 * state.corners) corners), coordinates_long)

  ends : Rises 0 (take state.rings rings) × (last_of 0 (take state.rings rings) ≡ state.corners)
  unfolding plan_of
  ends =
      let rise = sums_rise 0 (take state.rings rings) sound.ring_ends in
      (rise.0, omega (arith, rise.1, (even (plan_of state corners rings polygons) sound.passes).corners, coordinates_long))

  corner_held : (i : ℕ) → i < state.corners → corner_at (take (2 * state.corners) corners) i ≡ corner_at corners i
  corner_held i h = λ t. record { x = get_or-take (2 * state.corners) corners (2 * i) (pos 0) (omega arith) t; y = get_or-take (2 * state.corners) corners (2 * i + 1) (pos 0) (omega arith) t }

  corner_read : (p : Point) (i : ℕ) → i < state.corners → get_or (corners_of (take (2 * state.corners) corners)) i p ≡ corner_at corners i
  corner_read p i h = corner_is (take (2 * state.corners) corners) i p (omega (arith, coordinates_long)) ∙ corner_held i h

  pub plan_rings : RingEnds state.corners state.rings rings
  unfolding start_of
  plan_rings = record { reach = sound.rings_reach; rise = rise; all = all state.rings refl }
    where
      long : length (take state.rings rings) ≡ state.rings
      long = length-take-le state.rings rings sound.rings_reach

      same : (r : ℕ) → r < state.rings → get_or (take state.rings rings) r 0 ≡ get_or rings r 0
      same r l = get_or-take state.rings rings r 0 l

      rise : (r : ℕ) → r < state.rings → start_of rings r ≤ get_or rings r 0
      rise zero l = omega arith
      rise (suc r) l = omega (arith, rise_at 0 (take state.rings rings) ends.0 r (omega (arith, long)), same (suc r) l, same r (omega arith))

      all : (c : ℕ) → state.rings ≡ c → start_of rings c ≡ state.corners
      all zero e = sym (no_rings rings) ∙ ap (λ c. last_of 0 (take c rings)) (sym e) ∙ ends.1
      all (suc c) e = sym (same c (omega arith)) ∙ last_at 0 (take state.rings rings) c (long ∙ e) ∙ ends.1

  pub plan_corners : CornersNear state.corners corners
  unfolding plan_of plan_in_range
  plan_corners = record {
    reach = sound.corners_reach;
    few = omega (arith, (few (plan_of state corners rings polygons) (accepted_passes (plan_of state corners rings polygons) sound.passes).0).corners, coordinates_long);
    near = λ i h.
        let p : Point = record { x = pos 0; y = pos 0 } in
        ap in_range (sym (corner_read p i h)) ∙ near_at (corners_of (take (2 * state.corners) corners)) sound.near i p (omega (arith, corners_long));
  }

  -- item 1: edge i by the tables is the plan's edge i
  pub plan_edge : (i : ℕ) (d : Edge) → i < state.corners → get_or (all_edges (rings_of (plan_of state corners rings polygons))) i d ≡ edge_of corners rings i
  unfolding plan_of rings_of edge_of next_corner
  plan_edge i d h =
      let p : Point = record { x = pos 0; y = pos 0 } in
      ap (λ k. get_or (all_edges (rings_of (plan_of state corners rings polygons))) k d) (let e : i ≡ i - 0 = omega arith in e)
      ∙ edge_at_lem (corners_of (take (2 * state.corners) corners)) d p 0 (take state.rings rings) i ends.0 (omega (arith, ends.1, corners_long)) (omega arith) (omega (arith, ends.1))
      ∙ (λ t. (corner_read p i h t, (ap (λ k. get_or (corners_of (take (2 * state.corners) corners)) k p) (next_take state.rings 0 rings i (omega arith) (omega (arith, ends.1))) ∙ corner_read p (next_corner rings i) (next_inside state.corners state.rings rings plan_rings i h)) t))
