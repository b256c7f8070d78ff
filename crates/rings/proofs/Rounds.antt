-- Once round a ring, edge by edge: what is counted so far and what is still to come make up the whole. Assumes nothing.
use Rattle.std.specs.Prelude.{Option, Some, None}
use mathlib.Core.Path.{◌≡◌, refl, sym, ◌∙◌, ap, ap₂, subst}
use mathlib.Core.Bool.{Bool, true, false, cond, ◌||◌}
use mathlib.Core.List.{List, [], ◌∷◌, map}
use Prim.Native.Nat.{ℕ, ◌+◌, ◌*◌, ◌<◌, ◌≤◌}
use native.Mathlib.Omega.{arith}
use lib.IntN.{ℤ, pos, nat_abs, ◌+ℤ◌, +ℤ_idl, +ℤ_idr, +ℤ_assoc}
use Rattle.integers.proofs.Sizes.{abs_add}
use Rattle.integers.proofs.Tests.{or_none}
use Rattle.geom.specs.declared.Point.{Point}
use Rattle.predicates.specs.Turn.{on_segment}
use Rattle.rules.specs.declared.Location.TheVariants.{Outside, Inside, OnBoundary}
use Rattle.rules.specs.Edges.{Edge, edges_from, edges_of, edge_winding, winding, on_edge}
use Rattle.rules.specs.Lists.{any_of, sum_of}
use lib.ListN.{length}
use Rattle.rules.specs.Plans.{corners_of, corner_at}
use Rattle.rules.specs.Replies.{is_nonzero, ring_reply}
use Rattle.rings.specs.Crossings.{crossing_of, is_on, weight_of, with_edge, ring_winding, place_by}
use Rattle.rings.specs.Half.{corner_on}
use Rattle.rings.specs.Parts.{part}
use Rattle.rings.proofs.Parts.{part_none, part_corner}
use Rattle.rings.proofs.EdgeCounts.{on_crossing, weight_crossing, weight_small}

abbrev weight : Point → Edge → ℤ
weight p e = edge_winding e.0 e.1 p

-- the ring started at `start`; `a` is the corner reached, `rest` the corners still to come, w the winding so far
pub record Going (ring : List Point) (p start a : Point) (rest : List Point) (w : ℤ) : Type 0 where
  pub on : on_edge (edges_of ring) p ≡ on_edge (edges_from start a rest) p
  pub wind : winding ring p ≡ w +ℤ sum_of (weight p) (edges_from start a rest)

begin : (ring : List Point) (p start : Point) (rest : List Point) → ring ≡ start ∷ rest → Going ring p start start rest (pos 0)
unfolding winding edges_of
begin ring p start rest e =
    record { on = ap (λ r. on_edge (edges_of r) p) e; wind = ap (λ r. winding r p) e ∙ sym (+ℤ_idl (sum_of (weight p) (edges_from start start rest))) }

step : (ring : List Point) (p start a b : Point) (rest : List Point) (w : ℤ) → Going ring p start a (b ∷ rest) w → is_on (crossing_of a b p) ≡ false → Going ring p start b rest (w +ℤ weight_of (crossing_of a b p))
unfolding edges_from on_edge any_of sum_of
step ring p start a b rest w g off =
    let here : on_segment a b p ≡ false = sym (on_crossing a b p) ∙ off in
    record {
      on = g.on ∙ ap (λ t. t || on_edge (edges_from start b rest) p) here;
      wind = g.wind ∙ sym (+ℤ_assoc w (edge_winding a b p) (sum_of (weight p) (edges_from start b rest))) ∙ ap (λ t. w +ℤ t +ℤ sum_of (weight p) (edges_from start b rest)) (sym (weight_crossing a b p here));
    }

-- the point is on an edge
boundary : (ring : List Point) (p : Point) → on_edge (edges_of ring) p ≡ true → None ≡ ring_winding ring p
unfolding ring_winding
boundary ring p e = sym (ap (λ t. cond t None (Some (winding ring p))) e)

hit : (ring : List Point) (p start a b : Point) (rest : List Point) (w : ℤ) → Going ring p start a (b ∷ rest) w → is_on (crossing_of a b p) ≡ true → None ≡ ring_winding ring p
unfolding edges_from on_edge any_of
hit ring p start a b rest w g on = boundary ring p (g.on ∙ ap (λ t. t || on_edge (edges_from start b rest) p) (sym (on_crossing a b p) ∙ on))

-- the closing edge
last_on : (ring : List Point) (p start a : Point) (w : ℤ) → Going ring p start a [] w → on_edge (edges_of ring) p ≡ on_segment a start p
unfolding edges_from on_edge any_of
last_on ring p start a w g = g.on ∙ or_none (on_segment a start p)

last_wind : (ring : List Point) (p start a : Point) (w : ℤ) → Going ring p start a [] w → winding ring p ≡ w +ℤ edge_winding a start p
unfolding edges_from sum_of
last_wind ring p start a w g = g.wind ∙ ap (λ t. w +ℤ t) (+ℤ_idr (edge_winding a start p))

close : (ring : List Point) (p start a : Point) (w : ℤ) → Going ring p start a [] w → with_edge w (crossing_of a start p) ≡ ring_winding ring p
unfolding ring_winding
close ring p start a w g = go (on_segment a start p) refl
  where
    go : (on : Bool) → on_segment a start p ≡ on → with_edge w (crossing_of a start p) ≡ cond (on_edge (edges_of ring) p) None (Some (winding ring p))
    go true e = ap (λ t. cond t None (Some (w +ℤ weight_of (crossing_of a start p)))) (on_crossing a start p ∙ e) ∙ sym (ap (λ t. cond t None (Some (winding ring p))) (last_on ring p start a w g ∙ e))
    go false e =
        ap₂ (λ t u. cond t None (Some (w +ℤ u))) (on_crossing a start p ∙ e) (weight_crossing a start p e)
        ∙ sym (ap₂ (λ t u. cond t None (Some u)) (last_on ring p start a w g ∙ e) (last_wind ring p start a w g))

pub empty : (ring : List Point) (p : Point) → ring ≡ [] → Some (pos 0) ≡ ring_winding ring p
unfolding ring_winding on_edge any_of edges_of winding sum_of
empty ring p e = sym (ap (λ r. ring_winding r p) e)

-- ---- the ring of the corners from `first` to before `end`, read from the coordinates: the edges up to corner i are counted
abbrev pub corners_on : Bool → List ℤ → ℕ → ℕ → List Point
corners_on half coordinates first end = map (corner_on half) (part (corners_of coordinates) first end)

pub record Counted (half : Bool) (coordinates : List ℤ) (p : Point) (first end : ℕ) (start a : Point) (w : ℤ) (i : ℕ) : Type 0 where
  pub inside : i ≤ end
  pub small : nat_abs w + first + 1 ≤ i
  pub going : Going (corners_on half coordinates first end) p start a (corners_on half coordinates i end) w

module _ (half : Bool) (coordinates : List ℤ) where
  pub none_left : (e : ℕ) → corners_on half coordinates e e ≡ []
  none_left e = ap (map (corner_on half)) (part_none (corners_of coordinates) e)

  -- the next corner, read from the coordinates
  next_corner : (i e : ℕ) (b : Point) → i < e → 2 * e ≤ length coordinates → b ≡ corner_on half (corner_at coordinates i) → corners_on half coordinates i e ≡ b ∷ corners_on half coordinates (i + 1) e
  next_corner i e b h reach is = ap (map (corner_on half)) (part_corner coordinates i e h reach) ∙ ap (λ corner. corner ∷ corners_on half coordinates (i + 1) e) (sym is)

module _ (half : Bool) (coordinates : List ℤ) (p : Point) (first end : ℕ) (reach : 2 * end ≤ length coordinates) (start : Point) where
  pub opened : first < end → start ≡ corner_on half (corner_at coordinates first) → Counted half coordinates p first end start start (pos 0) (first + 1)
  opened some is =
      record {
        inside = omega arith;
        small = omega arith;
        going = begin (corners_on half coordinates first end) p start (corners_on half coordinates (first + 1) end) (next_corner half coordinates first end start some reach is);
      }

  module _ (a : Point) (w : ℤ) (i : ℕ) (g : Counted half coordinates p first end start a w i) where
    -- all but the closing edge
    pub rounded : end ≤ i → with_edge w (crossing_of a start p) ≡ ring_winding (corners_on half coordinates first end) p
    rounded over =
        let e : i ≡ end = omega (arith, g.inside) in
        close (corners_on half coordinates first end) p start a w (subst (λ rest. Going (corners_on half coordinates first end) p start a rest w) (ap (λ k. corners_on half coordinates k end) e ∙ none_left half coordinates end) g.going)

    module _ (b : Point) (more : i < end) (is : b ≡ corner_on half (corner_at coordinates i)) where
      ready : Going (corners_on half coordinates first end) p start a (b ∷ corners_on half coordinates (i + 1) end) w
      ready = subst (λ rest. Going (corners_on half coordinates first end) p start a rest w) (next_corner half coordinates i end b more reach is) g.going

      module _ (r : Option ℤ) (told : r ≡ with_edge w (crossing_of a b p)) where
        pub touched : r ≡ None → None ≡ ring_winding (corners_on half coordinates first end) p
        touched none = go (is_on (crossing_of a b p)) refl
          where
            go : (on : Bool) → is_on (crossing_of a b p) ≡ on → None ≡ ring_winding (corners_on half coordinates first end) p
            go true on = hit (corners_on half coordinates first end) p start a b (corners_on half coordinates (i + 1) end) w ready on
            go false off = absurd (let clash : None ≡ Some (w +ℤ weight_of (crossing_of a b p)) = sym none ∙ told ∙ ap (λ t. cond t None (Some (w +ℤ weight_of (crossing_of a b p)))) off in cc clash)

        pub counted : (w' : ℤ) → r ≡ Some w' → Counted half coordinates p first end start b w' (i + 1)
        counted w' some = go (is_on (crossing_of a b p)) refl
          where
            go : (on : Bool) → is_on (crossing_of a b p) ≡ on → Counted half coordinates p first end start b w' (i + 1)
            go true on = absurd (let clash : None ≡ Some w' = sym (told ∙ ap (λ t. cond t None (Some (w +ℤ weight_of (crossing_of a b p)))) on) ∙ some in cc clash)
            go false off =
                let same : Some w' ≡ Some (w +ℤ weight_of (crossing_of a b p)) = sym some ∙ told ∙ ap (λ t. cond t None (Some (w +ℤ weight_of (crossing_of a b p)))) off in
                let sum : w' ≡ w +ℤ weight_of (crossing_of a b p) = cc same in
                record {
                  inside = omega arith;
                  small = omega (arith, g.small, ap nat_abs sum, abs_add w (weight_of (crossing_of a b p)), weight_small (crossing_of a b p));
                  going = subst (Going (corners_on half coordinates first end) p start b (corners_on half coordinates (i + 1) end)) (sym sum) (step (corners_on half coordinates first end) p start a b (corners_on half coordinates (i + 1) end) w ready off);
                }

-- ---- what the winding number tells
-- on the grid corners stand as they are
pub on_grid : (corners : List Point) → map (corner_on false) corners ≡ corners
on_grid [] = refl
on_grid (corner ∷ corners) = ap (λ rest. corner ∷ rest) (on_grid corners)

pub place_is : (ring : List Point) (p : Point) → place_by (ring_winding ring p) ≡ ring_reply ring p
unfolding ring_winding ring_reply
place_is ring p = go (on_edge (edges_of ring) p)
  where
    go : (on : Bool) → place_by (cond on None (Some (winding ring p))) ≡ cond on OnBoundary (cond (is_nonzero (winding ring p)) Inside Outside)
    go true = refl
    go false = refl
