-- The half-grid's walk on sound tables: from the start through the steps to the reply, for each of the four rays. Assumes nothing.
use mathlib.Core.Path.{◌≡◌, refl, sym, ap, ap₂, ◌∙◌, subst}
use mathlib.Core.Bool.{Bool, true, false, not, cond, ◌||◌, beq}
use mathlib.Core.List.{List, [], ◌∷◌}
use Prim.Native.Nat.{ℕ, zero, suc, ◌+◌, ◌%◌, ◌≤◌, ◌<◌}
use native.Mathlib.Decide.{ℕ_discrete}
use native.Mathlib.Numerals.{add-one}
use native.Mathlib.Omega.{arith}
use borrow.Author.Tests.{eq-eqb, ne_eqb}
use lib.IntN.{ℤ}
use lib.ListN.{length, get_or}
use Rattle.geom.specs.declared.Point.{Point}
use Rattle.rules.specs.declared.Location.TheVariants.{Outside, Inside, OnBoundary}
use Rattle.rules.specs.declared.Ray.{Ray}
use Rattle.rules.specs.declared.State.{State}
use Rattle.rules.specs.Lists.{any_of, count_of, is_odd, xor}
use Rattle.rules.specs.Plans.{rings_of}
use Rattle.rules.specs.Replies.{half_reply}
use Rattle.rules.specs.Tables.{plan_of}
use Rattle.rules.proofs.Indexed.{any_to, count_to}
use Rattle.rings.specs.declared.crossings.Crossing.{Crossing}
use Rattle.rings.specs.declared.crossings.Crossing.TheVariants.{Nothing, Up, Down, On}
use Rattle.rings.specs.Crossings.{is_on}
use Rattle.rings.specs.Half.{crossed_once}
use Rattle.boxes.specs.Boxes.{rect_at}
use Rattle.boxes.specs.Rings.{RingEnds}
use Rattle.boxes.proofs.PlanEdges.{plan_rings, plan_corners}
use Rattle.walk.specs.declared.Cursor.{Cursor}
use Rattle.walk.specs.declared.Query.{Query}
use Rattle.walk.specs.declared.Query.TheVariants.{Meeting}
use Rattle.walk.specs.Steps.{Begun, Walking, InHand, Never, Ends, at_place}
use Rattle.walk.specs.Walks.{Yielded, Walked}
use Rattle.walk.specs.Walks.Yielded.{edge}
use Rattle.walk.proofs.Standing.{walking_at}
use Rattle.walk.proofs.Walked.{over_to, begun, ended, any_all, count_all}
use Rattle.rays.specs.Along.{is_crossed, place_by}
use Rattle.rays.specs.Numbered.{half_crossing_at}
use Rattle.rays.specs.Reach.{half_rect}
use Rattle.rays.proofs.PlanAlong.{half_missed_at, half_reply_along}
use Rattle.gather.specs.Collections.{WalkedSound}
use Rattle.gather.specs.Regions.{LookSound}
use Rattle.gather.specs.Halves.{CrossedTo, ParityTo, OnOne}
use Rattle.gather.proofs.Placing.{walked_sound, in_root}

-- an edge more turns the parity over if it is crossed
odd_more : (b : Bool) (k : ℕ) → is_odd (cond b (suc k) k) ≡ xor (is_odd k) b
odd_more false k = same (is_odd k)
  where
    same : (c : Bool) → c ≡ xor c false
    same true = refl
    same false = refl
odd_more true k = go (ℕ_discrete (k % 2) 1)
  where
    go : Dec (k % 2 ≡ 1) → is_odd (suc k) ≡ xor (is_odd k) true
    go (yes e) = ne_eqb (suc k % 2) 1 (λ f. absurd (omega arith)) ∙ ap (λ b. xor b true) (sym (eq-eqb (k % 2) 1 e))
    go (no d) = eq-eqb (suc k % 2) 1 (omega arith) ∙ ap (λ b. xor b true) (sym (ne_eqb (k % 2) 1 d))

-- one that passes a test among the first n
any_found : (test : ℕ → Bool) (n k : ℕ) → k < n → test k ≡ true → any_to test n ≡ true
unfolding any_to
any_found test zero k h t = absurd (omega arith)
any_found test (suc n) k h t = go (ℕ_discrete k n) (any_found test n k)
  where
    last : (b : Bool) → b || true ≡ true
    last true = refl
    last false = refl

    go : Dec (k ≡ n) → (k < n → test k ≡ true → any_to test n ≡ true) → any_to test n || test n ≡ true
    go (yes e) ih = ap (λ b. any_to test n || b) (ap test (sym e) ∙ t) ∙ last (any_to test n)
    go (no d) ih = ap (λ b. b || test n) (ih (omega arith) t)

-- an edge more
pub parity_on_lem : (n count : ℕ) (corners : List ℤ) (rings edges : List ℕ) (query : Query) (crossings : ℕ → Crossing) → RingEnds n count rings → (place : ℕ) (odd odd' : Bool) → ParityTo place corners rings edges query crossings odd
    → CrossedTo n count rings crossings odd (get_or edges place 0) odd' → ParityTo (place + 1) corners rings edges query crossings odd'
unfolding any_of count_of
parity_on_lem n count corners rings edges query crossings ends place odd odd' C N =
    let e = get_or edges place 0 in
    record {
      yielded = e ∷ C.yielded;
      behind = subst (λ (k : ℕ). Yielded corners rings edges query k (e ∷ C.yielded)) (sym (add-one place)) (edge C.behind);
      off = ap₂ ◌||◌ (N.off ends) C.off;
      parity = N.parity ends ∙ ap (λ b. xor b (is_crossed (crossings e))) C.parity ∙ sym (odd_more (is_crossed (crossings e)) (count_of (λ x. is_crossed (crossings x)) C.yielded));
    }

-- where the walk stands, and what is counted
pub record HalfWalking (n : ℕ) (corners : List ℤ) (rings : List ℕ) (parts : List (List ℕ)) (edges : List ℕ) (query : Query) (crossings : ℕ → Crossing) (stack : List ℕ) (cursor : Cursor) (odd : Bool) : Type 0 where
  pub walking : Walking n parts stack cursor
  pub counted : ParityTo cursor.at corners rings edges query crossings odd

module _ (n count : ℕ) (corners : List ℤ) (rings : List ℕ) (boxes : List (List ℤ)) (parts : List (List ℕ)) (edges : List ℕ) (S : WalkedSound n count corners rings boxes parts edges) (query : Query) (crossings : ℕ → Crossing) where
  pub crossing_start : (stack : List ℕ) (c : Cursor) → 18 ≤ length stack → get_or stack 0 0 ≡ 0 → Begun n c → HalfWalking n corners rings parts edges query crossings stack c false
  unfolding any_of count_of
  crossing_start stack c room root B =
      let W = begun n corners rings boxes parts edges S.walk query stack c room root B in
      record { walking = W.walking; counted = record { yielded = []; behind = W.yielded; off = refl; parity = refl } }

  module _ (stack : List ℕ) (c : Cursor) (odd : Bool) (C : HalfWalking n corners rings parts edges query crossings stack c odd) where
    -- a leaf more
    pub crossing_on : (stack' : List ℕ) (here : Cursor) (odd' : Bool) → InHand n boxes parts edges query stack c stack' here
        → ((query : Query) → RingEnds n count rings → ParityTo here.at corners rings edges query crossings odd → ParityTo here.to corners rings edges query crossings odd')
        → HalfWalking n corners rings parts edges query crossings stack' (at_place here here.to) odd'
    crossing_on stack' here odd' H N =
        let t = H.going.turned corners rings S.walk C.walking in
        let far = over_to corners rings edges query c.at here.at C.counted.yielded t.on C.counted.behind t.over in
        record {
          walking = walking_at n corners rings boxes parts edges S.walk stack' here t.walking here.to (omega arith);
          counted = N query S.ends (record { yielded = C.counted.yielded; behind = far; off = C.counted.off; parity = C.counted.parity });
        }

    pub crossing_end : (stack' : List ℕ) → Ends n boxes parts edges query stack c stack' → ParityTo n corners rings edges query crossings odd
    crossing_end stack' E =
        let W : Walked n corners rings parts edges query stack c C.counted.yielded = record { walking = C.walking; yielded = C.counted.behind } in
        record {
          yielded = C.counted.yielded;
          behind = ended n corners rings boxes parts edges S.walk query stack c C.counted.yielded W stack' E;
          off = C.counted.off;
          parity = C.counted.parity;
        }

    pub crossing_never : Never n boxes parts edges stack c → ⊥
    crossing_never f = f corners rings S.walk C.walking

-- ---- the reply
module _ (state : State) (corners : List ℤ) (rings polygons : List ℕ) (boxes : List (List ℤ)) (parts : List (List ℕ)) (edges : List ℕ) (S : LookSound state corners rings polygons boxes parts edges) (ray : Ray) (p : Point) where
  abbrev crossings_half : ℕ → Crossing
  crossings_half = half_crossing_at state.corners corners rings ray p

  pub half_on : OnOne state.corners (half_crossing_at state.corners corners rings ray p) → OnBoundary ≡ half_reply (rings_of (plan_of state corners rings polygons)) p
  half_on O =
      sym (half_reply_along state corners rings polygons S.plan ray p
      ∙ ap (λ on. place_by on (is_odd (count_to (λ e. is_crossed (crossings_half e)) state.corners))) (any_found (λ e. is_on (crossings_half e)) state.corners O.edge O.inside O.on))

  pub half_parity : (odd : Bool) → ParityTo state.corners corners rings edges (Meeting (half_rect ray (rect_at boxes 0) p)) (half_crossing_at state.corners corners rings ray p) odd → cond odd Inside Outside ≡ half_reply (rings_of (plan_of state corners rings polygons)) p
  half_parity odd A =
      let W = walked_sound state corners rings polygons boxes parts edges S in
      let missed = half_missed_at state.corners corners rings ray p state.rings (plan_rings state corners rings polygons S.plan) (plan_corners state corners rings polygons S.plan) (rect_at boxes 0) (in_root state corners rings polygons boxes parts edges S) in
      let query = Meeting (half_rect ray (rect_at boxes 0) p) in
      ap₂ place_by
      (sym A.off ∙ any_all state.corners corners rings boxes parts edges W.walk query A.yielded A.behind (λ e. is_on (crossings_half e)) (λ e m. ap is_on (missed e m)))
      (A.parity ∙ ap is_odd (count_all state.corners corners rings boxes parts edges W.walk query A.yielded A.behind (λ e. is_crossed (crossings_half e)) (λ e m. ap is_crossed (missed e m))))
      ∙ sym (half_reply_along state corners rings polygons S.plan ray p)

-- a parity with one more edge, by whether the edge is crossed
pub turned : (odd : Bool) (k : Crossing) → not (beq odd (is_crossed k)) ≡ crossed_once odd k
turned true Nothing = refl
turned true Up = refl
turned true Down = refl
turned true On = refl
turned false Nothing = refl
turned false Up = refl
turned false Down = refl
turned false On = refl
