-- A whole walk along a ray of sound tables: what the slots say of each ring is the point's place in it, for each of the four rays.
-- Assumes nothing.
use mathlib.Core.Path.{◌≡◌, refl, sym, ap, ap₂, ◌∙◌, subst}
use mathlib.Core.Bool.{true}
use mathlib.Core.List.{List, []}
use Prim.Native.Nat.{ℕ, ◌≤◌, ◌<◌, ◌^◌}
use native.Mathlib.Omega.{arith}
use lib.IntN.{ℤ, nat_abs}
use lib.ListN.{get_or, take}
use lib.Seq.{length-take-le}
use Rattle.geom.specs.declared.Point.{Point}
use Rattle.geom.specs.declared.Rect.{Rect}
use Rattle.geom.specs.Boxes.{holds_rect}
use Rattle.rules.specs.declared.Location.{Location}
use Rattle.rules.specs.declared.Ray.{Ray}
use Rattle.rules.specs.declared.State.{State}
use Rattle.rules.specs.Plans.{rings_of}
use Rattle.rules.specs.Replies.{is_nonzero, ring_reply}
use Rattle.rules.specs.Tables.{plan_of}
use Rattle.rules.proofs.Verdicts.{few, accepted_passes}
use Rattle.rings.specs.Crossings.{is_on, weight_of}
use Rattle.boxes.specs.Boxes.{box_of, rect_at, edge_box}
use Rattle.boxes.specs.Rings.{RingEnds}
use Rattle.boxes.proofs.Leasts.{box_holds}
use Rattle.boxes.proofs.PlanEdges.{plan_rings, plan_corners}
use Rattle.index.specs.Parts.{first_at, count_at}
use Rattle.index.proofs.Counts.{node_count_some}
use Rattle.index.proofs.Soundness.{edge_place, smallest_rect}
use Rattle.walk.specs.declared.Query.TheVariants.{Meeting}
use Rattle.walk.specs.Steps.{WalkSound}
use Rattle.walk.proofs.Walked.{sum_of_ring, any_of_ring}
use Rattle.rays.specs.Along.{place_by}
use Rattle.rays.specs.Numbered.{crossing_at, InRoot}
use Rattle.rays.specs.Reach.{ray_rect}
use Rattle.rays.proofs.PlanAlong.{missed_at, ring_reply_along}
use Rattle.rays.proofs.PlanRings.{ring_within}
use Rattle.fold.proofs.PolygonEnds.{lengths_length, plan_polygons}
use Rattle.fold.proofs.PlanRegions.{region_is}
use Rattle.gather.specs.declared.tally.Layout.{Layout}
use Rattle.gather.specs.Slots.{place_of}
use Rattle.gather.specs.Tallies.{winding_in, on_in, ring_at}
use Rattle.gather.specs.Collections.{WalkedSound, ToldAll}
use Rattle.gather.specs.Regions.{SlotsPlace, FoldSays, LookSound, region_reply}
use Rattle.gather.proofs.Counting.{place_slot, winding_small}

module _ (state : State) (corners : List ℤ) (rings polygons : List ℕ) (boxes : List (List ℤ)) (parts : List (List ℕ)) (edges : List ℕ) (S : LookSound state corners rings polygons boxes parts edges) where
  ends : RingEnds state.corners state.rings rings
  ends = plan_rings state corners rings polygons S.plan

  walk_sound : WalkSound state.corners corners rings boxes parts edges
  walk_sound = record { few = (plan_corners state corners rings polygons S.plan).few; index = S.index }

  pub walked_sound : WalkedSound state.corners state.rings corners rings boxes parts edges
  walked_sound = record { walk = walk_sound; reach = S.plan.corners_reach; ends = ends }

  pub rings_few : state.rings ≤ 65536
  unfolding plan_of
  rings_few =
      omega (arith, (few (plan_of state corners rings polygons) (accepted_passes (plan_of state corners rings polygons) S.plan.passes).0).rings, lengths_length 0 (take state.rings rings), length-take-le state.rings rings S.plan.rings_reach)

  -- the root box holds every edge
  pub in_root : InRoot state.corners corners rings (rect_at boxes 0)
  in_root e h =
      let at = edge_place state.corners corners rings boxes parts edges S.index e h in
      let root = smallest_rect corners rings edges parts boxes 0 (S.index.smallest 0 (node_count_some state.corners)) in
      subst (λ (r : Rect). holds_rect r (edge_box corners rings e) ≡ true) (sym root)
      (subst (λ (x : ℕ). holds_rect (box_of corners rings edges (first_at parts 0) (count_at parts 0)) (edge_box corners rings x) ≡ true) at.2 (box_holds corners rings edges (first_at parts 0) (count_at parts 0) at.0 (omega (arith, S.index.root_first)) (omega (arith, S.index.root_first, S.index.root_count, at.1))))

  module _ (ray : Ray) (p : Point) where
    -- the place of the point in each ring of the plan
    places : ℕ → Location
    places r = ring_reply (get_or (rings_of (plan_of state corners rings polygons)) r []) p

    module _ (layout : Layout) (listed : List ℕ) (slots : List ℤ) (A : ToldAll state.corners state.rings corners rings edges ray (Meeting (ray_rect ray (rect_at boxes 0) p)) p layout listed slots) where
      ring_place : (r : ℕ) → r < state.rings → ring_reply (get_or (rings_of (plan_of state corners rings polygons)) r []) p ≡ place_by (on_in A.told.met r) (is_nonzero (winding_in A.told.met r))
      ring_place r h =
          let missed = missed_at state.corners corners rings ray p (rect_at boxes 0) in_root in
          let whole = ring_within state.corners state.rings rings ends r h in
          ring_reply_along state corners rings polygons S.plan ray p r h
          ∙ sym (ap₂ (λ on w. place_by on (is_nonzero w))
          (A.told.on r h ∙ any_of_ring state.corners corners rings boxes parts edges walk_sound (Meeting (ray_rect ray (rect_at boxes 0) p)) A.yielded A.whole r (ends.rise r h) whole (λ e. is_on (crossing_at state.corners corners rings ray p e)) (λ e m. ap is_on (missed e m)))
          (A.told.winding r h ∙ sum_of_ring state.corners corners rings boxes parts edges walk_sound (Meeting (ray_rect ray (rect_at boxes 0) p)) A.yielded A.whole r (ends.rise r h) whole (λ e. weight_of (crossing_at state.corners corners rings ray p e)) (λ e m. ap weight_of (missed e m))))

      small : (r : ℕ) → nat_abs (winding_in A.told.met r) ≤ 2 ^ 61
      small r = omega (arith, winding_small A.told.met r, A.told.same, A.few, walk_sound.few)

      slots_place : SlotsPlace places state.rings layout listed slots
      unfolding places
      slots_place =
          record {
            rise = A.told.tallied.rise;
            inside = A.told.tallied.inside;
            each = λ k h.
                ring_place (ring_at layout listed k) (A.told.tallied.inside k h)
                ∙ sym (ap place_of (A.told.tallied.told k h) ∙ place_slot (winding_in A.told.met (ring_at layout listed k)) (on_in A.told.met (ring_at layout listed k)) (small (ring_at layout listed k)));
            rest = λ r h f. ring_place r h ∙ ap₂ (λ on w. place_by on (is_nonzero w)) (A.told.tallied.rest r h f).1 (A.told.tallied.rest r h f).0;
          }

      -- and a fold over them gives item 4's reply
      pub region_told : (location : Location) → FoldSays state.kind polygons state.polygons state.rings layout listed slots location → location ≡ region_reply (plan_of state corners rings polygons) p
      unfolding places
      region_told location F = F places (plan_polygons state corners rings polygons S.plan) slots_place ∙ region_is state corners rings polygons S.plan p places (λ k h. refl)
