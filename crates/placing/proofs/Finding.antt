-- A corner's two edges: the edge before it in its ring ends there, and on sound tables both have a place in the edge list and a way to
-- it. Assumes nothing.
use mathlib.Core.Path.{◌≡◌, sym, ap, ◌∙◌, subst}
use mathlib.Core.Bool.{cond}
use mathlib.Core.List.{List}
use Prim.Native.Nat.{ℕ, ◌-◌, ◌≤◌, ◌<◌}
use native.Mathlib.Decide.{dec_lt}
use native.Mathlib.Omega.{arith}
use borrow.Author.Tests.{lt-ltb, le-ltb}
use lib.IntN.{ℤ}
use lib.ListN.{get_or}
use Rattle.boxes.specs.Rings.{previous_in, start_of, next_corner, RingAt, RingEnds}
use Rattle.boxes.proofs.Rings.{next_within, next_last, ring_inside, next_of_ring}
use Rattle.walk.specs.declared.edges.Edge.{Edge}
use Rattle.walk.specs.Edges.{EdgeSound, EdgeFound}
use Rattle.walk.specs.Places.{PlaceSound, PlaceFound}
use Rattle.refit.specs.Paths.{RefitSound}
use Rattle.placing.specs.Ways.{CorrectionSound, PlacesFound}

-- ---- the corner before one, in a ring
pub previous_within : (start end e : ℕ) → start < e → previous_in start end e ≡ e - 1
previous_within start end e h = ap (λ b. cond b (e - 1) (end - 1)) (lt-ltb start e h)

pub previous_first : (start end e : ℕ) → e ≤ start → previous_in start end e ≡ end - 1
previous_first start end e h = ap (λ b. cond b (e - 1) (end - 1)) (le-ltb start e h)

module _ (n count : ℕ) (rings : List ℕ) (R : RingEnds n count rings) (i r : ℕ) (A : RingAt rings count i r) where
  before : ℕ
  before = previous_in (start_of rings r) (get_or rings r 0) i

  -- it is in the same ring, and the corner after it is the one from which it was found
  previous_turns : RingAt rings count before r × (next_corner rings before ≡ i)
  unfolding before
  previous_turns = go (dec_lt (start_of rings r) i)
    where
      go : Dec (start_of rings r < i) → RingAt rings count before r × (next_corner rings before ≡ i)
      go (yes a) =
          let e = previous_within (start_of rings r) (get_or rings r 0) i a in
          let B : RingAt rings count before r = record { ring = A.ring; from = omega arith; to = omega (arith, A.to) } in
          (B, next_of_ring n count rings R before r B ∙ next_within (start_of rings r) (get_or rings r 0) before (omega (arith, A.to)) ∙ omega arith)
      go (no a) =
          let e = previous_first (start_of rings r) (get_or rings r 0) i (omega arith) in
          let B : RingAt rings count before r = record { ring = A.ring; from = omega (arith, A.from, A.to); to = omega (arith, A.from, A.to) } in
          (B, next_of_ring n count rings R before r B ∙ next_last (start_of rings r) (get_or rings r 0) before (omega (arith, A.to)) ∙ omega (arith, A.from))

-- ---- soundness, as far as each search rests on it
module _ (n count : ℕ) (corners : List ℤ) (rings : List ℕ) (boxes : List (List ℤ)) (parts : List (List ℕ)) (edges : List ℕ) (S : CorrectionSound n count corners rings boxes parts edges) where
  pub edge_sound : (e : ℕ) → e < n → EdgeSound n count corners rings e
  edge_sound e l = record { one = l; reach = S.reach; ends = S.ends }

  pub place_sound : (e : ℕ) → e < n → PlaceSound n count corners rings boxes parts edges e
  place_sound e l = record { edge = edge_sound e l; walk = record { few = S.few; index = S.index } }

  pub refit_sound : RefitSound n count corners rings boxes parts edges
  refit_sound = record { few = S.few; ends = S.ends; index = S.index }

-- ---- from the edges before and after a corner to its places
module _ (n count : ℕ) (corners : List ℤ) (rings : List ℕ) (boxes : List (List ℤ)) (parts : List (List ℕ)) (edges : List ℕ) (i : ℕ) (edge : Edge) (F : EdgeFound n count corners rings i edge) (previous : ℕ) (e : previous ≡ previous_in (start_of rings edge.ring) (get_or rings edge.ring 0) i) where
  -- the corner before it is one of the plan's
  pub previous_inside : RingEnds n count rings → previous < n
  unfolding before
  previous_inside R = subst (λ (m : ℕ). m < n) (sym e) (ring_inside n count rings R _ edge.ring (previous_turns n count rings R i edge.ring F.holds).0)

  pub places_found : (after before : ℕ) → PlaceFound n count corners rings boxes parts edges i after → PlaceFound n count corners rings boxes parts edges previous before → PlacesFound n count corners rings boxes edges i (record { after = after; before = before })
  unfolding before
  places_found after before P Q = record {
    one = F.one;
    corners_reach = F.reach;
    boxes_reach = P.index.boxes_reach;
    start_place = P.stands.inside;
    stop_place = Q.stands.inside;
    starts = P.stands.edge;
    stops = λ R. ap (next_corner rings) (Q.stands.edge ∙ e) ∙ (previous_turns n count rings R i edge.ring F.holds).1;
  }
