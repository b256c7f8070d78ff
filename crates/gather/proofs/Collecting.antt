-- A walk that counts its edges, on sound tables: from the start through the steps to the end. Assumes nothing.
use mathlib.Core.Path.{◌≡◌, refl, sym, ap, ap₂, ◌∙◌, subst}
use mathlib.Core.Bool.{cond, ◌&&◌, ◌||◌}
use Rattle.std.specs.Prelude.{Err}
use mathlib.Core.List.{List, [], ◌∷◌}
use Prim.Native.Nat.{ℕ, suc, ◌+◌, ◌≤◌, ◌<◌}
use native.Mathlib.Numerals.{add-one}
use native.Mathlib.Omega.{arith}
use lib.Dec.{eqb}
use lib.IntN.{ℤ, pos, ◌+ℤ◌}
use lib.ListN.{length, get_or}
use Rattle.geom.specs.declared.Point.{Point}
use Rattle.rules.specs.declared.Ray.{Ray}
use Rattle.rules.specs.Edges.{Edge}
use Rattle.rules.specs.Lists.{sum_of, any_of}
use Rattle.rings.specs.declared.crossings.Crossing.{Crossing}
use Rattle.rings.specs.Crossings.{is_on, weight_of}
use Rattle.rings.specs.Half.{near_doubled}
use Rattle.walk.specs.declared.Cursor.{Cursor}
use Rattle.walk.specs.declared.Query.{Query}
use Rattle.walk.specs.Steps.{Begun, Walking, InHand, Never, Ends, at_place}
use Rattle.boxes.specs.Rings.{in_ring, RingEnds}
use Rattle.index.proofs.Soundness.{edge_in}
use Rattle.walk.specs.Walks.{Yielded, Walked}
use Rattle.walk.specs.Walks.Yielded.{edge}
use Rattle.walk.specs.declared.edges.Edge as Found
use Rattle.walk.specs.Edges.{EdgeSound, EdgeFound}
use Rattle.rays.specs.Along.{crossing_along}
use Rattle.rays.specs.Numbered.{crossing_at, half_crossing_at}
use Rattle.rays.proofs.PlanAlong.{crossing_is, half_crossing_is}
use Rattle.walk.proofs.Sums.{ring_told}
use Rattle.walk.proofs.Standing.{walking_at}
use Rattle.walk.proofs.Walked.{length_most, over_to, begun, ended}
use Rattle.gather.specs.declared.tally.Layout.{Layout}
use Rattle.gather.specs.declared.collect.Stopped.{Stopped}
use Rattle.gather.specs.declared.collect.Stopped.TheVariants.{TooMany, Unsound}
use Rattle.gather.specs.Tallies.{winding_in, on_in, is_listed, Tallied}
use Rattle.gather.specs.Collections.{WalkedSound, MetFound, NotedTo, ToldTo, NotedAll, LeafNoted, ToldAll, CollectSays}

-- ---- how an edge counts that was found, in the grid and in the half-grid
module _ (n count : ℕ) (corners : List ℤ) (rings : List ℕ) (ray : Ray) (p : Point) (e : ℕ) (edge : Found.Edge) (F : EdgeFound n count corners rings e edge) (crossing : Crossing) where
  pub met_found : crossing ≡ crossing_along ray edge.from edge.to p → MetFound n count rings (crossing_at n corners rings ray p) e edge.ring crossing
  met_found q = record {
    holds = F.holds;
    crossing_is = λ R. q ∙ (λ i. crossing_along ray (F.edge_is R i).0 (F.edge_is R i).1 p) ∙ sym (crossing_is n corners rings ray p e F.one);
  }

  pub half_met_found : (a b : Point) → a ≡ near_doubled edge.from → b ≡ near_doubled edge.to → crossing ≡ crossing_along ray a b p → MetFound n count rings (half_crossing_at n corners rings ray p) e edge.ring crossing
  half_met_found a b start stop q = record {
    holds = F.holds;
    crossing_is = λ R.
        q ∙ ap₂ (λ x y. crossing_along ray x y p) (start ∙ ap (λ (s : Edge). near_doubled s.0) (F.edge_is R)) (stop ∙ ap (λ (s : Edge). near_doubled s.1) (F.edge_is R))
        ∙ sym (half_crossing_is n corners rings ray p e F.one);
  }

-- ---- an edge more
module _ (n count : ℕ) (corners : List ℤ) (rings edges : List ℕ) (ends : RingEnds n count rings) (few : n ≤ 1048576) (ray : Ray) (query : Query) (p : Point) where
  pub told_on : (place : ℕ) (layout : Layout) (listed : List ℕ) (slots : List ℤ) (listed' : List ℕ) (slots' : List ℤ) (layout' : Layout) (ring : ℕ) → place < n → ToldTo n count corners rings edges ray query p place layout listed slots
      → NotedTo n count corners rings ray p (get_or edges place 0) layout listed slots listed' slots' layout' ring → ToldTo n count corners rings edges ray query p (place + 1) layout' listed' slots'
  unfolding winding_in on_in sum_of any_of
  told_on place layout listed slots listed' slots' layout' ring h C N =
      let e = get_or edges place 0 in
      let is = N.found.crossing_is ends in
      let own : (r : ℕ) → r < count → eqb ring r ≡ in_ring rings r e = λ r l. sym (ring_told n count rings ends e ring r l N.found.holds) in
      record {
        yielded = e ∷ C.yielded;
        behind = subst (λ (k : ℕ). Yielded corners rings edges query k (e ∷ C.yielded)) (sym (add-one place)) (edge C.behind);
        told =
            record {
              met = (ring, N.crossing) ∷ C.told.met;
              same = ap suc C.told.same;
              winding = λ r l. λ i. cond (own r l i) (weight_of (is i)) (pos 0) +ℤ C.told.winding r l i;
              on = λ r l. λ i. own r l i && is_on (is i) || C.told.on r l i;
              tallied = N.counts.tallied count C.told.met N.found.holds.ring (omega (arith, C.told.same, length_most corners rings edges query place C.yielded C.behind)) C.told.tallied;
            };
      }

-- where the walk stands, and that the edges yielded so far are those counted
pub record Collecting (n count : ℕ) (corners : List ℤ) (rings : List ℕ) (parts : List (List ℕ)) (edges : List ℕ) (ray : Ray) (query : Query) (p : Point) (stack : List ℕ) (cursor : Cursor) (layout : Layout) (listed : List ℕ) (slots : List ℤ) : Type 0 where
  pub walking : Walking n parts stack cursor
  pub told : ToldTo n count corners rings edges ray query p cursor.at layout listed slots

module _ (n count : ℕ) (corners : List ℤ) (rings : List ℕ) (boxes : List (List ℤ)) (parts : List (List ℕ)) (edges : List ℕ) (S : WalkedSound n count corners rings boxes parts edges) (ray : Ray) (query : Query) (p : Point) where
  pub collecting_start : (stack : List ℕ) (c : Cursor) (layout : Layout) (listed : List ℕ) (slots : List ℤ) → 18 ≤ length stack → get_or stack 0 0 ≡ 0 → Begun n c → Tallied count [] layout listed slots
      → Collecting n count corners rings parts edges ray query p stack c layout listed slots
  unfolding winding_in on_in sum_of any_of
  collecting_start stack c layout listed slots room root B T =
      let W = begun n corners rings boxes parts edges S.walk query stack c room root B in
      record {
        walking = W.walking;
        told = record { yielded = []; behind = W.yielded; told = record { met = []; same = refl; winding = λ r l. refl; on = λ r l. refl; tallied = T } };
      }

  module _ (stack : List ℕ) (c : Cursor) (layout : Layout) (listed : List ℕ) (slots : List ℤ) (C : Collecting n count corners rings parts edges ray query p stack c layout listed slots) where
    -- a leaf more
    pub collecting_on : (stack' : List ℕ) (here : Cursor) (listed' : List ℕ) (slots' : List ℤ) (layout' : Layout) → InHand n boxes parts edges query stack c stack' here
        → NotedAll n count corners rings edges ray p here.at here.to layout listed slots listed' slots' layout' → Collecting n count corners rings parts edges ray query p stack' (at_place here here.to) layout' listed' slots'
    collecting_on stack' here listed' slots' layout' H N =
        let t = H.going.turned corners rings S.walk C.walking in
        let far = over_to corners rings edges query c.at here.at C.told.yielded t.on C.told.behind t.over in
        record {
          walking = walking_at n corners rings boxes parts edges S.walk stack' here t.walking here.to (omega arith);
          told = N.told query S.walk.few H.going.inside S.ends (record { yielded = C.told.yielded; behind = far; told = C.told.told });
        }

    pub collecting_end : (stack' : List ℕ) → Ends n boxes parts edges query stack c stack' → ToldAll n count corners rings edges ray query p layout listed slots
    collecting_end stack' E =
        let W : Walked n corners rings parts edges query stack c C.told.yielded = record { walking = C.walking; yielded = C.told.behind } in
        let whole = ended n corners rings boxes parts edges S.walk query stack c C.told.yielded W stack' E in
        record {
          yielded = C.told.yielded;
          few = length_most corners rings edges query n C.told.yielded whole;
          whole = whole;
          told = C.told.told;
        }

    pub collecting_never : Never n boxes parts edges stack c → ⊥
    collecting_never f = f corners rings S.walk C.walking

  -- the edges of a leaf are edges of the plan
  pub leaf_sound_lem : (at to : ℕ) → to ≤ n → (((k : ℕ) → at ≤ k → k < to → EdgeSound n count corners rings (get_or edges k 0)) → ⊥) → ⊥
  leaf_sound_lem at to h f = f (λ k l u. record { one = edge_in n corners rings boxes parts edges S.walk.index k (omega arith); reach = S.reach; ends = S.ends })

-- a leaf that stops the walk: only a list can be full, and no sound tables get 15
pub leaf_stopped : (n count : ℕ) (corners : List ℤ) (rings : List ℕ) (boxes : List (List ℤ)) (parts : List (List ℕ)) (edges : List ℕ) (ray : Ray) (query : Query) (p : Point) (at to : ℕ) → to ≤ n
    → (first layout : Layout) → is_listed layout ≡ is_listed first → (firsts listed : List ℕ) (first_slots slots : List ℤ) (listed' : List ℕ) (slots' : List ℤ) (stopped : Stopped)
    → LeafNoted n count corners rings edges ray p at to layout listed slots listed' slots' (Err stopped) → CollectSays n count corners rings boxes parts edges ray query p first firsts first_slots listed' slots' (Err stopped)
leaf_stopped n count corners rings boxes parts edges ray query p at to h first layout same firsts listed first_slots slots listed' slots' TooMany N = sym same ∙ N
leaf_stopped n count corners rings boxes parts edges ray query p at to h first layout same firsts listed first_slots slots listed' slots' Unsound N = λ S T. leaf_sound_lem n count corners rings boxes parts edges S ray query p at to h N
