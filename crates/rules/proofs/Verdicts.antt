-- Refusals 4 and 3 of a plan: 4 comes first, and each comes under its condition alone. Assumes nothing.
use Rattle.std.specs.Prelude.{Ok, Err}
use mathlib.Core.Path.{◌≡◌, refl, sym, ◌∙◌, ap, ap₂, subst}
use mathlib.Core.Bool.{Bool, true, false, not, cond, ◌&&◌, ◌||◌}
use Prim.Native.Nat.{◌≤◌, ◌^◌}
use native.Mathlib.Omega.{arith}
use borrow.Author.Tests.{ltb-false, le-ltb, eqb-true}
use lib.Dec.{T, eqb, ltb}
use lib.ListN.{length}
use Rattle.integers.proofs.Tests.{not_false, or_false}
use Rattle.rules.specs.declared.Refusal.TheVariants.{Uneven, TooMany}
use Rattle.rules.specs.Lists.{total, is_odd}
use Rattle.rules.specs.Numbers.{verdict_number}
use Rattle.rules.specs.Plans.{Plan, corner_count, is_list, too_many, uneven, plan_verdict, Judged}
use Rattle.rules.specs.Answering.{Verdict, Accepted}

pub verdict_at : (plan : Plan) (many odd : Bool) → too_many plan ≡ many → uneven plan ≡ odd → plan_verdict plan ≡ cond many (Err TooMany) (cond odd (Err Uneven) Accepted)
unfolding plan_verdict
verdict_at plan many odd e f = ap₂ (λ m o. cond m (Err TooMany) (cond o (Err Uneven) Accepted)) e f

pub too_many_first : (plan : Plan) → too_many plan ≡ true → plan_verdict plan ≡ Err TooMany
too_many_first plan e = verdict_at plan true (uneven plan) e refl

pub uneven_second : (plan : Plan) → too_many plan ≡ false → uneven plan ≡ true → plan_verdict plan ≡ Err Uneven
uneven_second plan e f = verdict_at plan false true e f

pub accepted_else : (plan : Plan) → too_many plan ≡ false → uneven plan ≡ false → plan_verdict plan ≡ Accepted
accepted_else plan e f = verdict_at plan false false e f

-- and back: what is accepted passes both
pub accepted_passes : (plan : Plan) → plan_verdict plan ≡ Accepted → (too_many plan ≡ false) × (uneven plan ≡ false)
accepted_passes plan e = go (too_many plan) (uneven plan) (sym (verdict_at plan (too_many plan) (uneven plan) refl refl) ∙ e)
  where
    is_accepted : Verdict → Bool
    is_accepted (Ok _) = true
    is_accepted (Err r) = false

    go : (many odd : Bool) → cond many (Err TooMany) (cond odd (Err Uneven) Accepted) ≡ Accepted → (many ≡ false) × (odd ≡ false)
    go true odd h = absurd (subst T (sym (ap is_accepted h)) tt)
    go false true h = absurd (subst T (sym (ap is_accepted h)) tt)
    go false false h = (refl, refl)

-- ---- 4: exactly the plans above a ceiling of 2^20 corners, 2^16 rings or, for a list, 2^16 polygons
pub record Few (plan : Plan) : Type 0 where
  pub corners : corner_count plan ≤ 2 ^ 20
  pub rings : length plan.lengths ≤ 2 ^ 16
  pub polygons : is_list plan.kind ≡ true → length plan.counts ≤ 2 ^ 16

both_left : (a b : Bool) → a && b ≡ false → a ≡ true → b ≡ false
both_left true b e h = e
both_left false b e h = absurd (subst T (sym h) tt)

neither : (a b : Bool) → (a ≡ true → b ≡ false) → a && b ≡ false
neither true b f = f refl
neither false b f = refl

pub few : (plan : Plan) → too_many plan ≡ false → Few plan
unfolding too_many
few plan e =
    let a = or_false (ltb 1048576 (corner_count plan)) _ e in
    let b = or_false (ltb 65536 (length plan.lengths)) _ a.1 in
    record {
      corners = omega (arith, ltb-false 1048576 (corner_count plan) a.0);
      rings = omega (arith, ltb-false 65536 (length plan.lengths) b.0);
      polygons = λ list. omega (arith, ltb-false 65536 (length plan.counts) (both_left (is_list plan.kind) _ b.1 list));
    }

pub few_enough : (plan : Plan) → Few plan → too_many plan ≡ false
unfolding too_many
few_enough plan f =
    let a = le-ltb 1048576 (corner_count plan) (omega (arith, f.corners)) in
    let b = le-ltb 65536 (length plan.lengths) (omega (arith, f.rings)) in
    let c = neither (is_list plan.kind) (ltb 65536 (length plan.counts)) (λ list. le-ltb 65536 (length plan.counts) (omega (arith, f.polygons list))) in
    λ i. a i || (b i || c i)

-- ---- the numbers
pub numbers : (plan : Plan) → verdict_number (plan_verdict plan) ≡ cond (too_many plan) 4 (cond (uneven plan) 3 0)
unfolding plan_verdict
numbers plan = go (too_many plan) (uneven plan)
  where
    go : (many odd : Bool) → verdict_number (cond many (Err TooMany) (cond odd (Err Uneven) Accepted)) ≡ cond many 4 (cond odd 3 0)
    go true odd = refl
    go false true = refl
    go false false = refl

pub judged : (plan : Plan) (r : Verdict) → r ≡ plan_verdict plan → Judged plan r
judged plan r e = record { verdict = e; number = ap verdict_number e ∙ numbers plan }

-- ---- 3: what is accepted sums up
pub record Even (plan : Plan) : Type 0 where
  pub corners : total plan.lengths ≡ corner_count plan
  pub rings : is_list plan.kind ≡ true → total plan.counts ≡ length plan.lengths

pub even : (plan : Plan) → plan_verdict plan ≡ Accepted → Even plan
unfolding uneven
even plan e =
    let passes = (accepted_passes plan e).1 in
    let first = (or_false (is_odd (length plan.coordinates)) _ passes).1 in
    let second = or_false (not (eqb (total plan.lengths) (corner_count plan))) _ first in
    record {
      corners = eqb-true _ _ (not_false (eqb (total plan.lengths) (corner_count plan)) second.0);
      rings = λ list.
          let third = both_left (is_list plan.kind) _ second.1 list in
          eqb-true _ _ (not_false (eqb (total plan.counts) (length plan.lengths)) (or_false (not (eqb (total plan.counts) (length plan.lengths))) _ third).0);
    }
