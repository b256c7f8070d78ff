-- The tests of order, le_z and lt_z: what their outcome says, and what outcome an order gives. Assumes nothing.
use Rattle.std.proofs.Common.{◌≡◌, Bool, true, false, not, ◌&&◌, ◌||◌, T, ℤ, ◌≤ℤ◌, ◌<ℤ◌, sym, refl, subst}
use lib.Dec.{not_T}
use lib.Signed.{le_z, lt_z, clash_ℤ, le_z_yes, lt_z_yes, lt_z_no}

-- ---- flags
pub T_true : (b : Bool) → T b → b ≡ true
T_true true t = refl
T_true false t = absurd t

pub T_false : (b : Bool) → T (not b) → b ≡ false
T_false true t = absurd t
T_false false t = refl

pub true_T : {b : Bool} → b ≡ true → T b
true_T e = subst T (sym e) tt

pub false_T : {b : Bool} → b ≡ false → T (not b)
false_T e = subst (λ b. T (not b)) (sym e) tt

pub and_left : (a b : Bool) → T (a && b) → T a
and_left true b t = tt
and_left false b t = t

pub and_right : (a b : Bool) → T (a && b) → T b
and_right true b t = t
and_right false b t = absurd t

pub and_true : (a b : Bool) → a && b ≡ true → (a ≡ true) × (b ≡ true)
and_true true b e = (refl, e)
and_true false b e = absurd (true_T e)

pub not_true : (b : Bool) → not b ≡ true → b ≡ false
not_true true e = absurd (subst T (sym e) tt)
not_true false e = refl

pub not_false : (b : Bool) → not b ≡ false → b ≡ true
not_false true e = refl
not_false false e = absurd (subst T e tt)

pub and_none : (b : Bool) → b && false ≡ false
and_none true = refl
and_none false = refl

pub and_same : (b : Bool) → b && true ≡ b
and_same true = refl
and_same false = refl

pub or_none : (b : Bool) → b || false ≡ b
or_none true = refl
or_none false = refl

pub or_assoc : (a b c : Bool) → (a || b) || c ≡ a || (b || c)
or_assoc true b c = refl
or_assoc false b c = refl

pub or_false : (a b : Bool) → a || b ≡ false → (a ≡ false) × (b ≡ false)
or_false true b e = absurd (subst T e tt)
or_false false b e = (refl, e)

pub not_both : (b : Bool) → (b ≡ true → ⊥) → b ≡ false
not_both true f = absurd (f refl)
not_both false f = refl

-- ---- from an order to the test
pub lt_true : (x y : ℤ) → x <ℤ y → lt_z x y ≡ true
lt_true x y h = T_true (lt_z x y) h.lt

pub le_true : (x y : ℤ) → x ≤ℤ y → le_z x y ≡ true
le_true x y h = T_true (le_z x y) h.le

pub lt_false : (x y : ℤ) → y ≤ℤ x → lt_z x y ≡ false
lt_false x y h = T_false (lt_z x y) (not_T (lt_z x y) (λ t. clash_ℤ (lt_z_yes t) h))

pub le_false : (x y : ℤ) → y <ℤ x → le_z x y ≡ false
le_false x y h = T_false (le_z x y) (not_T (le_z x y) (λ t. clash_ℤ h (le_z_yes t)))

-- ---- from the test to the order
pub true_lt : (x y : ℤ) → lt_z x y ≡ true → x <ℤ y
true_lt x y e = lt_z_yes (true_T e)

pub true_le : (x y : ℤ) → le_z x y ≡ true → x ≤ℤ y
true_le x y e = le_z_yes (true_T e)

pub false_lt : (x y : ℤ) → lt_z x y ≡ false → y ≤ℤ x
false_lt x y e = lt_z_no (false_T e)

pub false_le : (x y : ℤ) → le_z x y ≡ false → y <ℤ x
false_le x y e = go (lt_z y x) refl
  where
    go : (b : Bool) → lt_z y x ≡ b → y <ℤ x
    go true f = true_lt y x f
    go false f = absurd (subst T e (false_lt y x f).le)

-- a test with what its outcome says, to split on
pub data LeView (x y : ℤ) : Bool → Type 0 where
  is_le : x ≤ℤ y → LeView x y true
  is_gt : y <ℤ x → LeView x y false

pub le_view : (x y : ℤ) → LeView x y (le_z x y)
le_view x y = go (le_z x y) refl
  where
    go : (b : Bool) → le_z x y ≡ b → LeView x y b
    go true e = is_le (true_le x y e)
    go false e = is_gt (false_le x y e)

pub le_not_lt : (x y : ℤ) → not (le_z x y) ≡ lt_z y x
le_not_lt x y = go (le_view x y)
  where
    go : {b : Bool} → LeView x y b → not b ≡ lt_z y x
    go (is_le h) = sym (lt_false y x h)
    go (is_gt h) = sym (lt_true y x h)
