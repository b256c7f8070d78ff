-- The ways out of a look-up in prepared tables: settled before a table is read, unsound, done. Assumes nothing.
use Rattle.std.specs.Prelude.{Err, Ok}
use mathlib.Core.Path.{◌≡◌, refl, sym, ◌∙◌, ap, subst}
use mathlib.Core.Bool.{Bool, true, false, cond, ◌||◌}
use mathlib.Core.Logic.{◌⊎◌, inl, inr, ⊎_elim}
use mathlib.Core.List.{List}
use Prim.Native.Nat.{ℕ, ◌*◌, ◌/◌, ◌≤◌}
use native.Mathlib.Omega.{arith}
use borrow.Author.Tests.{lt-ltb, le-ltb, ltb-true, ltb-false}
use lib.Dec.{T, ltb}
use lib.IntN.{ℤ}
use lib.ListN.{length}
use Rattle.geom.specs.declared.Point.{Point}
use Rattle.geom.specs.Range.{in_range, in_doubled_range}
use Rattle.rules.specs.declared.Location.{Location}
use Rattle.rules.specs.declared.Location.TheVariants.{Outside}
use Rattle.rules.specs.declared.Refusal.TheVariants.{Unsound}
use Rattle.rules.specs.declared.Spot.{Spot}
use Rattle.rules.specs.declared.Spot.TheVariants.{OnGrid, Doubled}
use Rattle.rules.specs.declared.State.{State}
use Rattle.rules.specs.Plans.{Plan, rings_of, kind_reply, plan_reply, plan_half_reply, plan_in_range}
use Rattle.rules.specs.Spots.{spot_in_range, spot_reply}
use Rattle.rules.specs.Replies.{half_reply}
use Rattle.rules.specs.Tables.{polygons_in, PlanSound}
use Rattle.integers.proofs.Tests.{and_none, or_false}
use Rattle.query.specs.Calls.{too_short, LookedUp}
use Rattle.outlines.specs.Shapes.{Placed}
use Rattle.query.proofs.Fits.{located, half_located}
use Rattle.rules.specs.Answering.{Reply}

clash : {b : Bool} → b ≡ true → b ≡ false → ⊥
clash e f = subst T f (subst T (sym e) tt)

-- a point out of range is outside whatever the plan is
pub far : (plan : Plan) (p : Point) → in_range p ≡ false → plan_reply plan p ≡ Outside
far plan p e = located plan p (plan_in_range plan) false refl e ∙ ap (λ t. cond t (kind_reply plan.kind plan p) Outside) (and_none (plan_in_range plan))

pub half_far : (plan : Plan) (p : Point) → in_doubled_range p ≡ false → plan_half_reply plan p ≡ Outside
half_far plan p e = half_located plan p (plan_in_range plan) false refl e ∙ ap (λ t. cond t (half_reply (rings_of plan) p) Outside) (and_none (plan_in_range plan))

pub spot_far : (plan : Plan) (spot : Spot) → spot_in_range spot ≡ false → spot_reply plan spot ≡ Outside
spot_far plan (OnGrid p) e = far plan p e
spot_far plan (Doubled p) e = half_far plan p e

-- the code's test of the tables' lengths, and the definition's
abbrev pub short_by : State → List ℤ → List ℕ → List ℕ → ℕ → Bool
short_by state corners rings polygons q = ltb (length corners / 2) state.corners || (ltb (length rings) state.rings || ltb (length polygons) q)

halved : (m n : ℕ) → ltb (m / 2) n ≡ ltb m (2 * n)
halved m n = go (ltb (m / 2) n) refl
  where
    go : (b : Bool) → ltb (m / 2) n ≡ b → ltb (m / 2) n ≡ ltb m (2 * n)
    go true e = e ∙ sym (lt-ltb m (2 * n) (omega (arith, ltb-true (m / 2) n e)))
    go false e = e ∙ sym (le-ltb m (2 * n) (omega (arith, ltb-false (m / 2) n e)))

pub short_is : (state : State) (corners : List ℤ) (rings polygons : List ℕ) (q : ℕ) → q ≡ polygons_in state.kind state.polygons → short_by state corners rings polygons q ≡ too_short state corners rings polygons
unfolding too_short
short_is state corners rings polygons q is = λ i. halved (length corners) state.corners i || (ltb (length rings) state.rings || ltb (length polygons) (is i))

module _ (state : State) (corners : List ℤ) (rings polygons : List ℕ) (ranged : Bool) (location : Location) where
  pub marked : state.out_of_range ≡ true → LookedUp state corners rings polygons ranged location (Ok Outside)
  marked m = record { early = λ e. refl; short = λ n k t. absurd (clash m n); placed = inl (Outside, refl); exact = λ s n. absurd (clash m n) }

  pub beyond : ranged ≡ false → location ≡ Outside → LookedUp state corners rings polygons ranged location (Ok Outside)
  beyond far e = record { early = λ e. refl; short = λ n k t. absurd (clash k far); placed = inl (Outside, refl); exact = λ s n. ap Ok (sym e) }

  module _ (m : state.out_of_range ≡ false) (n : ranged ≡ true) where
    not_early : (r : Reply) → (state.out_of_range ≡ true) ⊎ (ranged ≡ false) → r ≡ Ok Outside
    not_early r e = absurd (⊎_elim (λ k. clash k m) (λ k. clash n k) e)

    pub unsound : (PlanSound state corners rings polygons → ⊥) → LookedUp state corners rings polygons ranged location (Err Unsound)
    unsound f = record { early = not_early (Err Unsound); short = λ k j t. refl; placed = inr refl; exact = λ s k. absurd (f s) }

    pub done : too_short state corners rings polygons ≡ false → (r : Reply) → Placed r → (PlanSound state corners rings polygons → r ≡ Ok location) → LookedUp state corners rings polygons ranged location r
    done long r placed exact = record { early = not_early r; short = λ k j t. absurd (clash t long); placed = placed; exact = λ s k. exact s }

pub never_short : (state : State) (corners : List ℤ) (rings polygons : List ℕ) (q : ℕ) → q ≡ polygons_in state.kind state.polygons → short_by state corners rings polygons q ≡ true → PlanSound state corners rings polygons → ⊥
never_short state corners rings polygons q is e s =
    let a = le-ltb (length corners / 2) state.corners (omega (arith, s.corners_reach)) in
    let b = le-ltb (length rings) state.rings s.rings_reach in
    let c = le-ltb (length polygons) q (omega (arith, s.polygons_reach)) in
    clash e (λ i. a i || (b i || c i))

-- what reaches far enough
pub record Long (state : State) (corners : List ℤ) (rings polygons : List ℕ) (q : ℕ) : Type 0 where
  pub corner_table : 2 * state.corners ≤ length corners
  pub ring_table : state.rings ≤ length rings
  pub polygon_table : q ≤ length polygons

pub long : (state : State) (corners : List ℤ) (rings polygons : List ℕ) (q : ℕ) → short_by state corners rings polygons q ≡ false → Long state corners rings polygons q
long state corners rings polygons q e =
    let a = or_false (ltb (length corners / 2) state.corners) _ e in
    let b = or_false (ltb (length rings) state.rings) (ltb (length polygons) q) a.1 in
    record {
      corner_table = omega (arith, ltb-false (length corners / 2) state.corners a.0);
      ring_table = omega (arith, ltb-false (length rings) state.rings b.0);
      polygon_table = omega (arith, ltb-false (length polygons) q b.1);
    }
