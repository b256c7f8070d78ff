-- An edge that passes the point's height wholly ahead of it or wholly behind it: its turn is told without being computed. Assumes
-- nothing.
use mathlib.Core.Path.{◌≡◌, refl, sym, ◌∙◌, ap, subst}
use mathlib.Core.Bool.{Bool, true, false, not, cond, ◌&&◌, ◌||◌}
use lib.Dec.{T}
use lib.IntN.{ℤ, neg_ℤ, ◌-ℤ◌}
use lib.Signed.{lt_z}
use Rattle.integers.specs.declared.Sign.{Sign}
use Rattle.integers.specs.declared.Sign.TheVariants.{Negative, Zero, Positive}
use Rattle.integers.specs.Signs.{sign_of, is_negative, is_positive}
use Rattle.integers.proofs.Signs.{lt_sign, gt_sign, le_sign}
use Rattle.integers.proofs.Tests.{T_true, le_not_lt}
use Rattle.geom.specs.declared.Point.{Point}
use Rattle.predicates.specs.Turn.{orientation}
use Rattle.rules.specs.declared.Ray.{Ray}
use Rattle.rules.specs.declared.Ray.TheVariants.{Right, Left, Up, Down}
use Rattle.rules.specs.Rays.{turned}
use Rattle.rules.proofs.RaySigns.{possible, all5, all5_at}
use Rattle.rules.proofs.RayEdges.{orientation_turned, turn_possible}
use Rattle.rays.specs.Along.{no_higher, is_beyond, left_if}
use Rattle.rays.proofs.EdgesAlong.{height_turned, negated_order}

-- ---- on signs: those of a − p and b − p along the ray and in height, and of the turn
abbrev is_left : Bool → Sign → Bool
is_left flag s = cond flag (is_positive s) (is_negative s)

is_left_lem : (flag : Bool) (s : Sign) → T (is_left flag s) → left_if flag ≡ s
is_left_lem true Negative t = absurd t
is_left_lem true Zero t = absurd t
is_left_lem true Positive t = refl
is_left_lem false Negative t = refl
is_left_lem false Zero t = absurd t
is_left_lem false Positive t = absurd t

-- one end is higher than the point and the other is not
abbrev passes : Bool → Sign → Sign → Bool
passes rises ay by = cond rises (not (is_positive ay) && is_positive by) (is_positive ay && not (is_positive by))

abbrev test_ahead : Bool → Sign → Sign → Sign → Sign → Sign → Bool
test_ahead rises ax ay bx by s = not (possible ax ay bx by s) || (not (passes rises ay by) || (not (is_positive ax && is_positive bx) || is_left rises s))

abbrev test_behind : Bool → Sign → Sign → Sign → Sign → Sign → Bool
test_behind rises ax ay bx by s = not (possible ax ay bx by s) || (not (passes rises ay by) || (not (is_negative ax && is_negative bx) || is_left (not rises) s))

ahead_tested : (rises : Bool) → T (all5 (test_ahead rises))
ahead_tested true = tt
ahead_tested false = tt

behind_tested : (rises : Bool) → T (all5 (test_behind rises))
behind_tested true = tt
behind_tested false = tt

implied : (a b : Bool) → T (not a || b) → a ≡ true → T b
implied true b t e = t
implied false b t e = absurd (subst T (sym e) tt)

one_higher : (rises u v : Bool) → not u ≡ rises → not v ≡ not rises → cond rises (not u && v) (u && not v) ≡ true
one_higher true true v e f = absurd (subst T (sym e) tt)
one_higher true false true e f = refl
one_higher true false false e f = absurd (subst T f tt)
one_higher false true true e f = absurd (subst T (sym f) tt)
one_higher false true false e f = refl
one_higher false false v e f = absurd (subst T e tt)

-- ---- farther along the ray, in turned coordinates
beyond_negated : (x y : ℤ) → lt_z (neg_ℤ x) (neg_ℤ y) ≡ lt_z y x
beyond_negated x y = sym (le_not_lt (neg_ℤ y) (neg_ℤ x)) ∙ ap not (negated_order y x) ∙ le_not_lt x y

beyond_turned : (ray : Ray) (a b : Point) → lt_z (turned ray b).x (turned ray a).x ≡ is_beyond ray a b
beyond_turned Right a b = refl
beyond_turned Left a b = beyond_negated b.x a.x
beyond_turned Up a b = refl
beyond_turned Down a b = beyond_negated b.y a.y

-- ---- the turn
module _ (ray : Ray) (rises : Bool) (a b p : Point) (a_height : no_higher ray a p ≡ rises) (b_height : no_higher ray b p ≡ not rises) where
  abbrev ax : Sign
  ax = sign_of ((turned ray a).x -ℤ (turned ray p).x)

  abbrev ay : Sign
  ay = sign_of ((turned ray a).y -ℤ (turned ray p).y)

  abbrev bx : Sign
  bx = sign_of ((turned ray b).x -ℤ (turned ray p).x)

  abbrev by : Sign
  by = sign_of ((turned ray b).y -ℤ (turned ray p).y)

  abbrev turn : Sign
  turn = sign_of (orientation (turned ray a) (turned ray b) (turned ray p))

  past : passes rises ay by ≡ true
  past =
      one_higher rises (is_positive ay) (is_positive by)
      (sym (le_sign (turned ray a).y (turned ray p).y) ∙ height_turned ray a p ∙ a_height)
      (sym (le_sign (turned ray b).y (turned ray p).y) ∙ height_turned ray b p ∙ b_height)

  can : possible ax ay bx by turn ≡ true
  can = T_true _ (turn_possible (turned ray a) (turned ray b) (turned ray p))

  told : (flag : Bool) → T (is_left flag turn) → left_if flag ≡ sign_of (orientation a b p)
  told flag t = is_left_lem flag turn t ∙ ap sign_of (orientation_turned ray a b p)

  pub ahead_turn : is_beyond ray a p && is_beyond ray b p ≡ true → left_if rises ≡ sign_of (orientation a b p)
  ahead_turn e = told rises (implied _ _ (implied _ _ (implied _ _ (all5_at (test_ahead rises) (ahead_tested rises) ax ay bx by turn) can) past) both)
    where
      both : is_positive ax && is_positive bx ≡ true
      both = (λ i. (sym (gt_sign (turned ray a).x (turned ray p).x) ∙ beyond_turned ray a p) i && (sym (gt_sign (turned ray b).x (turned ray p).x) ∙ beyond_turned ray b p) i) ∙ e

  pub behind_turn : is_beyond ray p a && is_beyond ray p b ≡ true → left_if (not rises) ≡ sign_of (orientation a b p)
  behind_turn e = told (not rises) (implied _ _ (implied _ _ (implied _ _ (all5_at (test_behind rises) (behind_tested rises) ax ay bx by turn) can) past) both)
    where
      both : is_negative ax && is_negative bx ≡ true
      both = (λ i. (sym (lt_sign (turned ray a).x (turned ray p).x) ∙ beyond_turned ray p a) i && (sym (lt_sign (turned ray b).x (turned ray p).x) ∙ beyond_turned ray p b) i) ∙ e
