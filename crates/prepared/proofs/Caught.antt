-- Wrong look-ups that the contracts rule out, whatever their code is. Assumes nothing.
use Rattle.std.specs.Prelude.{Err, Ok}
use mathlib.Core.Path.{◌≡◌, refl, sym, ◌∙◌, ap, subst}
use mathlib.Core.Bool.{Bool, true, false}
use mathlib.Core.List.{List}
use Prim.Native.Nat.{ℕ, ◌<◌}
use native.Mathlib.Omega.{arith}
use lib.IntN.{ℤ}
use lib.ListN.{length, get_or}
use Rattle.geom.specs.declared.Point.{Point}
use Rattle.geom.specs.Range.{in_range}
use Rattle.rules.specs.declared.Location.{Location}
use Rattle.rules.specs.declared.Location.TheVariants.{Outside}
use Rattle.rules.specs.declared.Refusal.{Refusal}
use Rattle.rules.specs.declared.State.{State}
use Rattle.rules.specs.Plans.{corners_of, plan_reply}
use Rattle.rules.specs.Tables.{plan_of}
use Rattle.gather.specs.Regions.{LookSound}
use Rattle.outlines.proofs.Steps.{at_refused}
use Rattle.prepared.specs.Calls.{Looked}
use Rattle.prepared.specs.Firsts.{points_verdict, first_of, FirstSays, First, found_at, all_outside}
use Rattle.prepared.proofs.Listing.{Earliest, none_all, all_none, place_earliest, at_not, none_not, never_first, place_in}
use Rattle.rules.specs.Answering.{Reply, Accepted}

module _ (state : State) (corners : List ℤ) (rings polygons : List ℕ) (boxes : List (List ℤ)) (parts : List (List ℕ)) (edges : List ℕ) (unmarked : state.out_of_range ≡ false) (sound : LookSound state corners rings polygons boxes parts edges) where
  -- ---- one look-up, on either grid

  module _ (ranged : Bool) (location : Location) (near : ranged ≡ true) (r : Reply) (looked : Looked state corners rings polygons boxes parts edges ranged location r) where
    -- refusal throughout: sound tables never get 15, nor any other number
    pub never_refused : (refusal : Refusal) → r ≡ Err refusal → ⊥
    never_refused refusal e = at_refused location refusal (sym ((looked.looked unmarked near).exact sound) ∙ e)

    -- always outside: a point that is not outside is not said to be
    pub always_outside : (location ≡ Outside → ⊥) → r ≡ Ok Outside → ⊥
    unfolding place_in
    always_outside not e = not (ap place_in (sym ((looked.looked unmarked near).exact sound) ∙ e))

  -- the first point's reply repeated: two points of different replies get different replies
  pub reply_repeated : (p q : Point) (l m : Location) (r : Reply) → in_range p ≡ true → in_range q ≡ true
      → plan_reply (plan_of state corners rings polygons) p ≡ l → plan_reply (plan_of state corners rings polygons) q ≡ m → (l ≡ m → ⊥)
      → Looked state corners rings polygons boxes parts edges (in_range p) (plan_reply (plan_of state corners rings polygons) p) r
      → Looked state corners rings polygons boxes parts edges (in_range q) (plan_reply (plan_of state corners rings polygons) q) r → ⊥
  unfolding place_in
  reply_repeated p q l m r np nq lp lq differ a b =
      differ (sym lp ∙ ap place_in (sym ((a.looked unmarked np).exact sound) ∙ (b.looked unmarked nq).exact sound) ∙ lq)

  -- ---- a list of points

  module _ (points : List ℤ) (accepted : points_verdict points ≡ Accepted) (r : First) (says : FirstSays state corners rings polygons boxes parts edges points r) where
    -- refusal throughout
    pub list_never_refused : (refusal : Refusal) → r ≡ Err refusal → ⊥
    list_never_refused refusal e = go (first_of (plan_reply (plan_of state corners rings polygons)) (corners_of points)) refl
      where
        go : (f : First) → first_of (plan_reply (plan_of state corners rings polygons)) (corners_of points) ≡ f → ⊥
        go (found_at k) is = at_not k refusal (sym (says.exact accepted unmarked sound ∙ is) ∙ e)
        go all_outside is = none_not refusal (sym (says.exact accepted unmarked sound ∙ is) ∙ e)
        go (Err f) is = never_first (plan_reply (plan_of state corners rings polygons)) 0 (corners_of points) f is

    -- "none" before looking: where none is said, every listed point is outside, and where they all are, none is said
    pub none_means_all : r ≡ all_outside → (j : ℕ) → j < length (corners_of points) → (d : Point) → plan_reply (plan_of state corners rings polygons) (get_or (corners_of points) j d) ≡ Outside
    none_means_all e = none_all (plan_reply (plan_of state corners rings polygons)) 0 (corners_of points) (sym (says.exact accepted unmarked sound) ∙ e)

    pub all_means_none : (d : Point) → ((j : ℕ) → j < length (corners_of points) → plan_reply (plan_of state corners rings polygons) (get_or (corners_of points) j d) ≡ Outside) → r ≡ all_outside
    all_means_none d all = says.exact accepted unmarked sound ∙ all_none (plan_reply (plan_of state corners rings polygons)) 0 (corners_of points) d all

    -- a place is that of the earliest point that is not outside
    pub place_means_earliest : (k : ℕ) → r ≡ found_at k → Earliest (plan_reply (plan_of state corners rings polygons)) (corners_of points) k
    place_means_earliest k e =
        let w = place_earliest (plan_reply (plan_of state corners rings polygons)) 0 (corners_of points) k (sym (says.exact accepted unmarked sound) ∙ e) in
        subst (λ j. Earliest (plan_reply (plan_of state corners rings polygons)) (corners_of points) j) (let is = w.1 in let same : w.0 ≡ k = omega arith in same) w.2

-- 4 or 3 of a list dropped on a marked plan, or on any other: the list is refused whatever the plan and the tables are
pub list_judged : (state : State) (corners : List ℤ) (rings polygons : List ℕ) (boxes : List (List ℤ)) (parts : List (List ℕ)) (edges : List ℕ) (points : List ℤ) (r : First) → FirstSays state corners rings polygons boxes parts edges points r
    → state.out_of_range ≡ true → (refusal : Refusal) → points_verdict points ≡ Err refusal → r ≡ all_outside → ⊥
list_judged state corners rings polygons boxes parts edges points r says marked refusal judged none = none_not refusal (sym none ∙ says.judged refusal judged)
