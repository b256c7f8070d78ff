-- The first point of a list that is not outside: what "none" and a place mean, and the loop that looks for it. Assumes nothing.
use Rattle.std.specs.Prelude.{Err, Ok}
use mathlib.Core.Path.{◌≡◌, refl, sym, ◌∙◌, ap, subst}
use mathlib.Core.Bool.{Bool, true, false, cond}
use mathlib.Core.Logic.{inl, inr}
use mathlib.Core.List.{List, [], ◌∷◌}
use Prim.Native.Nat.{ℕ, zero, suc, ◌+◌, ◌*◌, ◌/◌, ◌%◌, ◌<◌, ◌≤◌}
use native.Mathlib.Decide.{dec_lt}
use native.Mathlib.Numerals.{add-one}
use native.Mathlib.Omega.{arith}
use borrow.Author.Tests.{lt-ltb, le-ltb, eq-eqb, ne_eqb}
use lib.Dec.{T, ltb}
use lib.IntN.{ℤ}
use lib.ListN.{length, drop, get_or}
use lib.Seq.{drop-nil}
use Rattle.geom.specs.Range.{in_range}
use Rattle.geom.specs.declared.Point.{Point}
use Rattle.rules.specs.declared.Location.{Location}
use Rattle.rules.specs.declared.Location.TheVariants.{Outside, Inside, OnBoundary}
use Rattle.rules.specs.declared.Refusal.{Refusal}
use Rattle.rules.specs.declared.Refusal.TheVariants.{Uneven, TooMany, Unsound}
use Rattle.rules.specs.declared.State.{State}
use Rattle.rules.specs.Lists.{is_odd}
use Rattle.rules.specs.Numbers.{refusal_number, verdict_number}
use Rattle.rules.specs.Plans.{corners_of, corner_at, plan_reply}
use Rattle.rules.specs.Tables.{plan_of}
use Rattle.rules.proofs.Corners.{corners_cons, corners_length}
use Rattle.rings.specs.Places.{is_outside}
use Rattle.gather.specs.Regions.{Enough, LookSound}
use Rattle.query.proofs.LookUps.{far}
use Rattle.outlines.proofs.Steps.{at_refused}
use Rattle.prepared.specs.Calls.{Looked}
use Rattle.prepared.specs.Firsts.{points_verdict, PointsJudged, first_from, first_of, FirstSays, First, found_at, all_outside}
use Rattle.prepared.proofs.Lookings.{clash, only_unsound}
use Rattle.rules.specs.Answering.{Reply, Verdict, Accepted}

-- ---- the answers are apart

is_at : First → Bool
is_at (found_at k) = true
is_at all_outside = false
is_at (Err refusal) = false

pub at_none : (k : ℕ) → found_at k ≡ all_outside → ⊥
unfolding is_at
at_none k e = subst T (ap is_at e) tt

place_of : First → ℕ
place_of (found_at k) = k
place_of all_outside = 0
place_of (Err refusal) = 0

pub same_place : (j k : ℕ) → found_at j ≡ found_at k → j ≡ k
unfolding place_of
same_place j k e = ap place_of e

only_outside : (l : Location) → is_outside l ≡ true → l ≡ Outside
only_outside Outside e = refl
only_outside Inside e = absurd (clash e refl)
only_outside OnBoundary e = absurd (clash e refl)

-- ---- both directions

-- "none" of a list is none of the rest too
none_rest : (reply : Point → Location) (k : ℕ) (p : Point) (points : List Point) → first_from reply k (p ∷ points) ≡ all_outside → (is_outside (reply p) ≡ true) × (first_from reply (suc k) points ≡ all_outside)
unfolding first_from
none_rest reply k p points e = go (is_outside (reply p)) refl
  where
    go : (b : Bool) → is_outside (reply p) ≡ b → (is_outside (reply p) ≡ true) × (first_from reply (suc k) points ≡ all_outside)
    go true o = (o, sym (λ i. cond (o i) (first_from reply (suc k) points) (found_at k)) ∙ e)
    go false o = absurd (at_none k (sym (λ i. cond (o i) (first_from reply (suc k) points) (found_at k)) ∙ e))

-- "none" means that every listed point is outside ..
pub none_all : (reply : Point → Location) (k : ℕ) (points : List Point) → first_from reply k points ≡ all_outside → (j : ℕ) → j < length points → (d : Point) → reply (get_or points j d) ≡ Outside
none_all reply k [] e j h d = absurd (omega arith)
none_all reply k (p ∷ points) e zero h d = only_outside (reply p) (none_rest reply k p points e).0
none_all reply k (p ∷ points) e (suc j) h d = none_all reply (suc k) points (none_rest reply k p points e).1 j (omega arith) d

-- .. and where every point is outside there is none
pub all_none : (reply : Point → Location) (k : ℕ) (points : List Point) (d : Point) → ((j : ℕ) → j < length points → reply (get_or points j d) ≡ Outside) → first_from reply k points ≡ all_outside
unfolding first_from
all_none reply k [] d h = refl
all_none reply k (p ∷ points) d h = (λ i. cond (is_outside (h 0 (omega arith) i)) (first_from reply (suc k) points) (found_at k)) ∙ all_none reply (suc k) points d (λ j g. h (suc j) (omega arith))

-- a place is one of the list, its point is not outside, and every point before it is
pub record Earliest (reply : Point → Location) (points : List Point) (j : ℕ) : Type 0 where
  pub listed : j < length points
  pub there : (d : Point) → is_outside (reply (get_or points j d)) ≡ false
  pub before : (i : ℕ) → i < j → (d : Point) → reply (get_or points i d) ≡ Outside

pub place_earliest : (reply : Point → Location) (k : ℕ) (points : List Point) (m : ℕ) → first_from reply k points ≡ found_at m → (j : ℕ) × (m ≡ k + j) × Earliest reply points j
unfolding first_from
place_earliest reply k [] m e = absurd (at_none m (sym e))
place_earliest reply k (p ∷ points) m e = go (is_outside (reply p)) refl (place_earliest reply (suc k) points m)
  where
    before : is_outside (reply p) ≡ true → (j : ℕ) → Earliest reply points j → (i : ℕ) → i < suc j → (d : Point) → reply (get_or (p ∷ points) i d) ≡ Outside
    before o j w zero h d = only_outside (reply p) o
    before o j w (suc i) h d = w.before i (omega arith) d

    go : (b : Bool) → is_outside (reply p) ≡ b → (first_from reply (suc k) points ≡ found_at m → (j : ℕ) × (m ≡ suc k + j) × Earliest reply points j) → (j : ℕ) × (m ≡ k + j) × Earliest reply (p ∷ points) j
    go false o rest =
        let is = same_place k m (sym (λ i. cond (o i) (first_from reply (suc k) points) (found_at k)) ∙ e) in
        (0, omega arith, record { listed = omega arith; there = λ d. o; before = λ i h d. absurd (omega arith) })
    go true o rest =
        let w = rest (sym (λ i. cond (o i) (first_from reply (suc k) points) (found_at k)) ∙ e) in
        (suc w.0, (let is = w.1 in omega arith), record { listed = (let h = w.2.listed in omega arith); there = w.2.there; before = before o w.0 w.2 })

-- ---- the loop: the first k points are outside

none_left : (k : ℕ) (points : List Point) → length points ≤ k → drop k points ≡ []
none_left k [] h = drop-nil k
none_left zero (p ∷ points) h = absurd (omega arith)
none_left (suc k) (p ∷ points) h = none_left k points (omega arith)

abbrev pub Passed : (Point → Location) → List ℤ → ℕ → Type 0
Passed reply points k = first_of reply (corners_of points) ≡ first_from reply k (drop k (corners_of points))

module _ (reply : Point → Location) (points : List ℤ) (k : ℕ) (h : 2 * k + 1 < length points) (passed : Passed reply points k) where
  here : first_of reply (corners_of points) ≡ first_from reply k (corner_at points k ∷ drop (k + 1) (corners_of points))
  here = passed ∙ ap (first_from reply k) (corners_cons points k h)

  pub pass : reply (corner_at points k) ≡ Outside → Passed reply points (k + 1)
  unfolding first_from
  pass o = here ∙ (λ i. cond (is_outside (o i)) (first_from reply (suc k) (drop (k + 1) (corners_of points))) (found_at k)) ∙ ap (λ m. first_from reply m (drop (k + 1) (corners_of points))) (sym (add-one k))

  pub stop : (l : Location) → reply (corner_at points k) ≡ l → is_outside l ≡ false → found_at k ≡ first_of reply (corners_of points)
  unfolding first_from
  stop l e o = sym (here ∙ (λ i. cond ((ap is_outside e ∙ o) i) (first_from reply (suc k) (drop (k + 1) (corners_of points))) (found_at k)))

-- ---- refusals 4 and 3 of the list

pub verdict_many : (points : List ℤ) → 65536 < length points / 2 → Err TooMany ≡ points_verdict points
unfolding points_verdict
verdict_many points h = rw (lt-ltb 65536 (length points / 2) h) refl

pub verdict_uneven : (points : List ℤ) → length points / 2 ≤ 65536 → length points % 2 ≡ 1 → Err Uneven ≡ points_verdict points
unfolding points_verdict
verdict_uneven points h e = rw (le-ltb 65536 (length points / 2) h, eq-eqb (length points % 2) 1 e) refl

pub verdict_good : (points : List ℤ) → length points / 2 ≤ 65536 → (length points % 2 ≡ 1 → ⊥) → Accepted ≡ points_verdict points
unfolding points_verdict
verdict_good points h e = rw (le-ltb 65536 (length points / 2) h, ne_eqb (length points % 2) 1 e) refl

pub points_judged : (points : List ℤ) (r : Verdict) → r ≡ points_verdict points → PointsJudged points r
unfolding points_verdict
points_judged points r e = record { verdict = e; number = ap verdict_number e ∙ go (ltb 65536 (length points / 2)) (is_odd (length points)) }
  where
    go : (many odd : Bool) → verdict_number (cond many (Err TooMany) (cond odd (Err Uneven) Accepted)) ≡ cond many 4 (cond odd 3 0)
    go true odd = refl
    go false true = refl
    go false false = refl

is_accepted : Verdict → Bool
is_accepted Accepted = true
is_accepted (Err refusal) = false

accepted_refused : (refusal : Refusal) → Accepted ≡ Err refusal → ⊥
unfolding is_accepted
accepted_refused refusal e = subst T (ap is_accepted e) tt

pub accepted_few : (points : List ℤ) → points_verdict points ≡ Accepted → length points / 2 ≤ 65536
accepted_few points v = go (dec_lt 65536 (length points / 2))
  where
    go : Dec (65536 < length points / 2) → length points / 2 ≤ 65536
    go (yes h) = absurd (accepted_refused TooMany (sym v ∙ sym (verdict_many points h)))
    go (no h) = let n : ¬ (65536 < length points / 2) = h in omega arith

-- the number of a list that is accepted, and of one that is refused
accepted_number : (points : List ℤ) → points_verdict points ≡ Accepted → (x : ℕ) → cond (ltb 65536 (length points / 2)) 4 (cond (is_odd (length points)) 3 x) ≡ x
unfolding points_verdict
accepted_number points v x = go (ltb 65536 (length points / 2)) (is_odd (length points)) v
  where
    go : (many odd : Bool) → cond many (Err TooMany) (cond odd (Err Uneven) Accepted) ≡ Accepted → cond many 4 (cond odd 3 x) ≡ x
    go true odd e = absurd (accepted_refused TooMany (sym e))
    go false true e = absurd (accepted_refused Uneven (sym e))
    go false false e = refl

refused_number : (points : List ℤ) (refusal : Refusal) → points_verdict points ≡ Err refusal → (x : ℕ) → refusal_number refusal ≡ cond (ltb 65536 (length points / 2)) 4 (cond (is_odd (length points)) 3 x)
unfolding points_verdict
refused_number points refusal v x = go (ltb 65536 (length points / 2)) (is_odd (length points)) v
  where
    go : (many odd : Bool) → cond many (Err TooMany) (cond odd (Err Uneven) Accepted) ≡ Err refusal → refusal_number refusal ≡ cond many 4 (cond odd 3 x)
    go true odd e = sym (ap verdict_number e)
    go false true e = sym (ap verdict_number e)
    go false false e = absurd (accepted_refused refusal e)

refusal_in : First → Refusal
refusal_in (found_at k) = Unsound
refusal_in all_outside = Unsound
refusal_in (Err refusal) = refusal

same_refusal : (f g : Refusal) → ◌≡◌ {A = First} (Err f) (Err g) → f ≡ g
unfolding refusal_in
same_refusal f g e = ap refusal_in e

is_refused : First → Bool
is_refused (found_at k) = false
is_refused all_outside = false
is_refused (Err refusal) = true

pub at_not : (k : ℕ) (f : Refusal) → found_at k ≡ Err f → ⊥
unfolding is_refused
at_not k f e = subst T (sym (ap is_refused e)) tt

pub none_not : (f : Refusal) → all_outside ≡ Err f → ⊥
unfolding is_refused
none_not f e = subst T (sym (ap is_refused e)) tt

unfoldable pub place_in : Reply → Location
place_in (Ok location) = location
place_in (Err refusal) = Outside

-- no list of replies is refused
pub never_first : (reply : Point → Location) (k : ℕ) (points : List Point) (f : Refusal) → first_from reply k points ≡ Err f → ⊥
unfolding first_from
never_first reply k [] f e = none_not f e
never_first reply k (p ∷ points) f e = go (is_outside (reply p)) refl (never_first reply (suc k) points f)
  where
    go : (b : Bool) → is_outside (reply p) ≡ b → (first_from reply (suc k) points ≡ Err f → ⊥) → ⊥
    go true o rest = rest (sym (λ i. cond (o i) (first_from reply (suc k) points) (found_at k)) ∙ e)
    go false o rest = at_not k f (sym (λ i. cond (o i) (first_from reply (suc k) points) (found_at k)) ∙ e)

-- ---- the loop over the list

module _ (state : State) (corners : List ℤ) (rings polygons : List ℕ) (boxes : List (List ℤ)) (parts : List (List ℕ)) (edges : List ℕ) (points : List ℤ) where
  -- some table is shorter than the state says
  abbrev TooShort : Type 0
  TooShort = Enough state (length corners) (length rings) (length polygons) (length boxes) (length parts) (length edges) → ⊥

  -- the points so far are outside on sound tables, and out of range where a table is too short
  pub record Going (k : ℕ) : Type 0 where
    pub within : k ≤ length points / 2
    pub accepted : points_verdict points ≡ Accepted
    pub passed : state.out_of_range ≡ false → LookSound state corners rings polygons boxes parts edges → Passed (plan_reply (plan_of state corners rings polygons)) points k
    pub unread : state.out_of_range ≡ false → TooShort → (j : ℕ) → j < k → in_range (corner_at points j) ≡ false

  abbrev LookedAt : Point → Reply → Type 0
  LookedAt p r = Looked state corners rings polygons boxes parts edges (in_range p) (plan_reply (plan_of state corners rings polygons) p) r

  -- what a reply that is a place says
  placed : (p : Point) (l : Location) → LookedAt p (Ok l) → state.out_of_range ≡ false → LookSound state corners rings polygons boxes parts edges → plan_reply (plan_of state corners rings polygons) p ≡ l
  unfolding place_in
  placed p l looked m s = go (in_range p) refl
    where
      go : (b : Bool) → in_range p ≡ b → plan_reply (plan_of state corners rings polygons) p ≡ l
      go true e = sym (ap place_in ((looked.looked m e).exact s))
      go false e = far (plan_of state corners rings polygons) p e ∙ sym (ap place_in (looked.early (inr e)))

  marked_out : (p : Point) (l : Location) → LookedAt p (Ok l) → state.out_of_range ≡ true → l ≡ Outside
  unfolding place_in
  marked_out p l looked m = ap place_in (looked.early (inl m))

  -- where a table is too short, a place is that of a point out of range
  far_place : (p : Point) (l : Location) → LookedAt p (Ok l) → state.out_of_range ≡ false → TooShort → in_range p ≡ false
  far_place p l looked m t = go (in_range p) refl
    where
      go : (b : Bool) → in_range p ≡ b → in_range p ≡ false
      go true e = absurd (at_refused l Unsound ((looked.looked m e).short t))
      go false e = e

  -- a point that is not said to be outside is in range
  near_point : (p : Point) (r : Reply) → LookedAt p r → (r ≡ Ok Outside → ⊥) → in_range p ≡ true
  near_point p r looked not = go (in_range p) refl
    where
      go : (b : Bool) → in_range p ≡ b → in_range p ≡ true
      go true e = e
      go false e = absurd (not (looked.early (inr e)))

  pub going_none : points_verdict points ≡ Accepted → Going 0
  going_none v = record { within = omega arith; accepted = v; passed = λ m s. refl; unread = λ m t j h. absurd (omega arith) }

  module _ (k : ℕ) (going : Going k) where
    not_judged : (refusal : Refusal) (r : First) → points_verdict points ≡ Err refusal → r ≡ Err refusal
    not_judged refusal r e = absurd (accepted_refused refusal (sym going.accepted ∙ e))

    -- every point was outside
    pub says_none : length points / 2 ≤ k → FirstSays state corners rings polygons boxes parts edges points all_outside
    unfolding first_from
    says_none h = record {
      judged = λ f e. not_judged f all_outside e;
      alone = λ f e. absurd (none_not f e);
      number = sym (accepted_number points going.accepted 0);
      inside = λ j e. absurd (at_none j (sym e));
      marked = λ v m. refl;
      beyond = λ v f. refl;
      short = λ v m j l n t. absurd (clash n (going.unread m t j (omega arith)));
      exact = λ v m s. sym (going.passed m s ∙ ap (first_from (plan_reply (plan_of state corners rings polygons)) k) (none_left k (corners_of points) (omega (arith, corners_length points))));
    }

    module _ (h : k < length points / 2) where
      place_inside : 2 * k + 1 < length points
      place_inside = omega arith

      pub going_more : (p : Point) → p ≡ corner_at points k → (l : Location) → LookedAt p (Ok l) → is_outside l ≡ true → Going (k + 1)
      going_more p is l looked o = record {
        within = omega arith;
        accepted = going.accepted;
        passed = λ m s. pass (plan_reply (plan_of state corners rings polygons)) points k place_inside (going.passed m s) (ap (plan_reply (plan_of state corners rings polygons)) (sym is) ∙ placed p l looked m s ∙ only_outside l o);
        unread = λ m t j g. unread m t j g (dec_lt j k);
      }
        where
          unread : state.out_of_range ≡ false → TooShort → (j : ℕ) → j < k + 1 → Dec (j < k) → in_range (corner_at points j) ≡ false
          unread m t j g (yes before) = going.unread m t j before
          unread m t j g (no last) = let here : j ≡ k = omega arith in ap (λ (i : ℕ). in_range (corner_at points i)) here ∙ ap in_range (sym is) ∙ far_place p l looked m t

      -- the point at k is in range, and so not every point is out of range
      not_beyond : (p : Point) → p ≡ corner_at points k → in_range p ≡ true → (r : First) → ((j : ℕ) → j < length points / 2 → in_range (corner_at points j) ≡ false) → r ≡ all_outside
      not_beyond p is near r f = absurd (clash (sym (ap in_range is) ∙ near) (f k h))

      pub says_at : (p : Point) → p ≡ corner_at points k → (l : Location) → LookedAt p (Ok l) → is_outside l ≡ false → FirstSays state corners rings polygons boxes parts edges points (found_at k)
      unfolding place_in
      says_at p is l looked o =
          let near = near_point p (Ok l) looked (λ e. clash (ap (λ (r : Reply). is_outside (place_in r)) e) o) in
          record {
            judged = λ f e. not_judged f (found_at k) e;
            alone = λ f e. absurd (at_not k f e);
            number = sym (accepted_number points going.accepted 0);
            inside = λ j e. (
              subst (λ (i : ℕ). i < length points / 2) (same_place k j e) h,
              subst (λ (i : ℕ). in_range (corner_at points i) ≡ true) (same_place k j e) (sym (ap in_range is) ∙ near),
            );
            marked = λ v m. absurd (clash (ap is_outside (marked_out p l looked m)) o);
            beyond = λ v f. not_beyond p is near (found_at k) f;
            short = λ v m j g n t. absurd (clash near (far_place p l looked m t));
            exact = λ v m s. stop (plan_reply (plan_of state corners rings polygons)) points k place_inside (going.passed m s) l (ap (plan_reply (plan_of state corners rings polygons)) (sym is) ∙ placed p l looked m s) o;
          }

      pub says_unsound : (p : Point) → p ≡ corner_at points k → (refusal : Refusal) → LookedAt p (Err refusal) → FirstSays state corners rings polygons boxes parts edges points (Err refusal)
      says_unsound p is refusal looked = subst (λ f. FirstSays state corners rings polygons boxes parts edges points (Err f)) (sym (only_unsound _ _ _ _ _ _ _ _ _ _ looked refusal refl)) (record {
        judged = λ f e. not_judged f (Err Unsound) e;
        alone = λ f e. inr (sym (same_refusal Unsound f e));
        number = sym (accepted_number points going.accepted 15);
        inside = λ j e. absurd (at_not j Unsound (sym e));
        marked = λ v m. absurd (at_refused Outside refusal (sym (looked.early (inl m))));
        beyond = λ v f. not_beyond p is near (Err Unsound) f;
        short = λ v m j g n t. refl;
        exact = λ v m s. absurd (at_refused (plan_reply (plan_of state corners rings polygons) p) refusal (sym ((looked.looked m near).exact s)));
      })
        where
          near : in_range p ≡ true
          near = near_point p (Err refusal) looked (λ e. at_refused Outside refusal (sym e))

  -- a list that is refused
  pub says_judged : (refusal : Refusal) → points_verdict points ≡ Err refusal → FirstSays state corners rings polygons boxes parts edges points (Err refusal)
  says_judged refusal e = record {
    judged = λ f v. ap (λ (g : Refusal). Err g) (sym (same_verdict refusal f (sym e ∙ v)));
    alone = λ f v. inl (e ∙ ap (λ (g : Refusal). Err g) (same_refusal refusal f v));
    number = refused_number points refusal e 15;
    inside = λ j v. absurd (at_not j refusal (sym v));
    marked = λ v m. absurd (accepted_refused refusal (sym v ∙ e));
    beyond = λ v f. absurd (accepted_refused refusal (sym v ∙ e));
    short = λ v m j h n t. absurd (accepted_refused refusal (sym v ∙ e));
    exact = λ v m s. absurd (accepted_refused refusal (sym v ∙ e));
  }
    where
      verdict_in : Verdict → Refusal
      verdict_in Accepted = Unsound
      verdict_in (Err f) = f

      same_verdict : (f g : Refusal) → ◌≡◌ {A = Verdict} (Err f) (Err g) → g ≡ f
      same_verdict f g v = sym (ap verdict_in v)
