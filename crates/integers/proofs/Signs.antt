-- Laws of signs: of products, negations and differences; tests of order by the sign of a difference. Assumes nothing.
use Rattle.std.proofs.Common.{◌≡◌, ℕ, zero, suc, ◌+◌, ◌*◌, Bool, true, false, cond, not, ◌||◌, T, ◌⊎◌, ℤ, pos, negsuc, ◌-ℤ◌, ◌*ℤ◌, neg_ℤ, ◌≤ℤ◌, ◌<ℤ◌, refl, ap, inl, inr, mul-zero, zero-mul, arith}
use lib.Signed.{le_z, lt_z}
use Rattle.std.specs.Int.{int_min, int_max}
use Rattle.integers.specs.declared.Sign.{Sign}
use Rattle.integers.specs.declared.Sign.TheVariants.{Negative, Zero, Positive}
use Rattle.integers.specs.Extremes.{min_z, max_z}
use Rattle.integers.specs.Signs.{sign_of, is_negative, is_zero, is_positive}
use Rattle.integers.proofs.Order.{zarith, sub_parts, ≤ℤ_trans, ≤ℤ_antisym}
use Rattle.integers.proofs.Tests.{LeView, is_le, is_gt, le_view, lt_true, lt_false, le_true, le_false}

abbrev pub opposite : Sign → Sign
opposite Negative = Positive
opposite Zero = Zero
opposite Positive = Negative

abbrev pub times : Sign → Sign → Sign
times Negative s = opposite s
times Zero s = Zero
times Positive s = s

pub sign_neg : (x : ℤ) → sign_of (neg_ℤ x) ≡ opposite (sign_of x)
sign_neg (pos zero) = refl
sign_neg (pos (suc n)) = refl
sign_neg (negsuc n) = refl

suc_suc : (a b : ℕ) → suc a * suc b ≡ suc (a * b + a + b)
suc_suc a b = omega arith

product_positive : (a b : ℕ) → sign_of (pos (suc a * suc b)) ≡ Positive
product_positive a b = rw suc_suc

pub sign_mul : (x y : ℤ) → sign_of (x *ℤ y) ≡ times (sign_of x) (sign_of y)
sign_mul (pos zero) (pos b) = rw zero-mul
sign_mul (pos zero) (negsuc b) = rw zero-mul
sign_mul (pos (suc a)) (pos zero) = rw mul-zero
sign_mul (pos (suc a)) (pos (suc b)) = rw suc_suc
sign_mul (pos (suc a)) (negsuc b) = rw suc_suc
sign_mul (negsuc a) (pos zero) = rw mul-zero
sign_mul (negsuc a) (pos (suc b)) = rw suc_suc
sign_mul (negsuc a) (negsuc b) = rw suc_suc

-- what a sign says of the integer, and that it says it
abbrev pub Has : Sign → ℤ → Type 0
Has Negative x = x <ℤ pos 0
Has Zero x = x ≡ pos 0
Has Positive x = pos 0 <ℤ x

pub sign_has : (x : ℤ) → Has (sign_of x) x
sign_has (pos zero) = refl
sign_has (pos (suc n)) = omega zarith
sign_has (negsuc n) = omega zarith

pub has_sign : (s : Sign) (x : ℤ) → Has s x → sign_of x ≡ s
has_sign Negative (pos n) h = absurd (omega zarith)
has_sign Negative (negsuc n) h = refl
has_sign Zero x h = ap sign_of h
has_sign Positive (pos zero) h = absurd (omega zarith)
has_sign Positive (pos (suc n)) h = refl
has_sign Positive (negsuc n) h = absurd (omega zarith)

-- the signs that a difference can have
abbrev pub agree : Sign → Sign → Sign → Bool
agree Negative Negative s = true
agree Negative Zero s = is_negative s
agree Negative Positive s = is_negative s
agree Zero Negative s = is_positive s
agree Zero Zero s = is_zero s
agree Zero Positive s = is_negative s
agree Positive Negative s = is_positive s
agree Positive Zero s = is_positive s
agree Positive Positive s = true

pub agree_ok : (x y : ℤ) → T (agree (sign_of x) (sign_of y) (sign_of (x -ℤ y)))
agree_ok x y = go (sign_of x) (sign_of y) (sign_has x) (sign_has y)
  where
    go : (s t : Sign) → Has s x → Has t y → T (agree s t (sign_of (x -ℤ y)))
    go Negative Negative h g = tt
    go Negative Zero h g = rw (has_sign Negative (x -ℤ y) (omega (zarith, sub_parts x y))) tt
    go Negative Positive h g = rw (has_sign Negative (x -ℤ y) (omega (zarith, sub_parts x y))) tt
    go Zero Negative h g = rw (has_sign Positive (x -ℤ y) (omega (zarith, sub_parts x y))) tt
    go Zero Zero h g = rw (has_sign Zero (x -ℤ y) (omega (zarith, sub_parts x y))) tt
    go Zero Positive h g = rw (has_sign Negative (x -ℤ y) (omega (zarith, sub_parts x y))) tt
    go Positive Negative h g = rw (has_sign Positive (x -ℤ y) (omega (zarith, sub_parts x y))) tt
    go Positive Zero h g = rw (has_sign Positive (x -ℤ y) (omega (zarith, sub_parts x y))) tt
    go Positive Positive h g = tt

-- ---- the tests of order, by the sign of the difference
pub lt_sign : (x y : ℤ) → lt_z x y ≡ is_negative (sign_of (x -ℤ y))
lt_sign x y = go (sign_of (x -ℤ y)) (sign_has (x -ℤ y))
  where
    go : (s : Sign) → Has s (x -ℤ y) → lt_z x y ≡ is_negative s
    go Negative h = lt_true x y (omega (zarith, sub_parts x y))
    go Zero h = lt_false x y (omega (zarith, sub_parts x y))
    go Positive h = lt_false x y (omega (zarith, sub_parts x y))

-- and by the sign of the difference the other way round
pub gt_sign : (x y : ℤ) → lt_z y x ≡ is_positive (sign_of (x -ℤ y))
gt_sign x y = go (sign_of (x -ℤ y)) (sign_has (x -ℤ y))
  where
    go : (s : Sign) → Has s (x -ℤ y) → lt_z y x ≡ is_positive s
    go Negative h = lt_false y x (omega (zarith, sub_parts x y))
    go Zero h = lt_false y x (omega (zarith, sub_parts x y))
    go Positive h = lt_true y x (omega (zarith, sub_parts x y))

pub le_sign : (x y : ℤ) → le_z x y ≡ not (is_positive (sign_of (x -ℤ y)))
le_sign x y = go (sign_of (x -ℤ y)) (sign_has (x -ℤ y))
  where
    go : (s : Sign) → Has s (x -ℤ y) → le_z x y ≡ not (is_positive s)
    go Negative h = le_true x y (omega (zarith, sub_parts x y))
    go Zero h = le_true x y (omega (zarith, sub_parts x y))
    go Positive h = le_false x y (omega (zarith, sub_parts x y))

pub ge_sign : (x y : ℤ) → le_z y x ≡ not (is_negative (sign_of (x -ℤ y)))
ge_sign x y = go (sign_of (x -ℤ y)) (sign_has (x -ℤ y))
  where
    go : (s : Sign) → Has s (x -ℤ y) → le_z y x ≡ not (is_negative s)
    go Negative h = le_false y x (omega (zarith, sub_parts x y))
    go Zero h = le_true y x (omega (zarith, sub_parts x y))
    go Positive h = le_true y x (omega (zarith, sub_parts x y))

-- ---- the lesser and the greater of two
pub le_min : (x y p : ℤ) → le_z (min_z x y) p ≡ (le_z x p || le_z y p)
le_min x y p = go (le_view x y) (le_view x p) (le_view y p)
  where
    go : {a b c : Bool} → LeView x y a → LeView x p b → LeView y p c → le_z (cond a x y) p ≡ (b || c)
    go (is_le h) (is_le g) k = le_true x p g
    go (is_le h) (is_gt g) (is_le k) = absurd (omega zarith)
    go (is_le h) (is_gt g) (is_gt k) = le_false x p g
    go (is_gt h) (is_le g) (is_le k) = le_true y p k
    go (is_gt h) (is_le g) (is_gt k) = absurd (omega zarith)
    go (is_gt h) (is_gt g) (is_le k) = le_true y p k
    go (is_gt h) (is_gt g) (is_gt k) = le_false y p k

pub le_max : (x y p : ℤ) → le_z p (max_z x y) ≡ (le_z p x || le_z p y)
le_max x y p = go (le_view x y) (le_view p x) (le_view p y)
  where
    go : {a b c : Bool} → LeView x y a → LeView p x b → LeView p y c → le_z p (cond a y x) ≡ (b || c)
    go (is_le h) (is_le g) (is_le k) = le_true p y k
    go (is_le h) (is_le g) (is_gt k) = absurd (omega zarith)
    go (is_le h) (is_gt g) (is_le k) = le_true p y k
    go (is_le h) (is_gt g) (is_gt k) = le_false p y k
    go (is_gt h) (is_le g) k = le_true p x g
    go (is_gt h) (is_gt g) (is_le k) = absurd (omega zarith)
    go (is_gt h) (is_gt g) (is_gt k) = le_false p x g

-- the library's least and greatest are these
pub int_min-min : (x y : ℤ) → int_min x y ≡ min_z x y
int_min-min x y = go (le_view x y)
  where
    go : {b : Bool} → LeView x y b → cond (lt_z y x) y x ≡ cond b x y
    go (is_le h) = rw (lt_false y x h)
    go (is_gt h) = rw (lt_true y x h)

pub int_max-max : (x y : ℤ) → int_max x y ≡ max_z x y
int_max-max x y = go (le_view x y)
  where
    go : {b : Bool} → LeView x y b → cond (lt_z y x) x y ≡ cond b y x
    go (is_le h) = rw (lt_false y x h)
    go (is_gt h) = rw (lt_true y x h)

pub min_parts : (x y : ℤ) → (min_z x y ≤ℤ x) × (min_z x y ≤ℤ y)
min_parts x y = go (le_view x y)
  where
    go : {a : Bool} → LeView x y a → (cond a x y ≤ℤ x) × (cond a x y ≤ℤ y)
    go (is_le h) = omega zarith
    go (is_gt h) = omega zarith

pub max_parts : (x y : ℤ) → (x ≤ℤ max_z x y) × (y ≤ℤ max_z x y)
max_parts x y = go (le_view x y)
  where
    go : {a : Bool} → LeView x y a → (x ≤ℤ cond a y x) × (y ≤ℤ cond a y x)
    go (is_le h) = omega zarith
    go (is_gt h) = omega zarith

-- what is at most both is at most the lesser, and what is at least both at least the greater
pub min_least : (x y p : ℤ) → p ≤ℤ x → p ≤ℤ y → p ≤ℤ min_z x y
min_least x y p h g = go (le_z x y)
  where
    go : (b : Bool) → p ≤ℤ cond b x y
    go true = h
    go false = g

pub max_greatest : (x y p : ℤ) → x ≤ℤ p → y ≤ℤ p → max_z x y ≤ℤ p
max_greatest x y p h g = go (le_z x y)
  where
    go : (b : Bool) → cond b y x ≤ℤ p
    go true = g
    go false = h

-- the lesser and the greater, where the order is known
pub min_right : (x y : ℤ) → y ≤ℤ x → min_z x y ≡ y
min_right x y h = go (le_view x y)
  where
    go : {b : Bool} → LeView x y b → cond b x y ≡ y
    go (is_le g) = omega zarith
    go (is_gt g) = refl

pub max_right : (x y : ℤ) → x ≤ℤ y → max_z x y ≡ y
max_right x y h = ap (λ b. cond b y x) (le_true x y h)

-- of three numbers the order of choosing does not matter
pub min_assoc : (x y z : ℤ) → min_z (min_z x y) z ≡ min_z x (min_z y z)
min_assoc x y z =
    let a = min_parts x y in
    let b = min_parts (min_z x y) z in
    let c = min_parts y z in
    let d = min_parts x (min_z y z) in
    ≤ℤ_antisym _ _
    (min_least x (min_z y z) _ (≤ℤ_trans _ (min_z x y) _ b.0 a.0) (min_least y z _ (≤ℤ_trans _ (min_z x y) _ b.0 a.1) b.1))
    (min_least (min_z x y) z _ (min_least x y _ d.0 (≤ℤ_trans _ (min_z y z) _ d.1 c.0)) (≤ℤ_trans _ (min_z y z) _ d.1 c.1))

pub max_assoc : (x y z : ℤ) → max_z (max_z x y) z ≡ max_z x (max_z y z)
max_assoc x y z =
    let a = max_parts x y in
    let b = max_parts (max_z x y) z in
    let c = max_parts y z in
    let d = max_parts x (max_z y z) in
    ≤ℤ_antisym _ _
    (max_greatest (max_z x y) z _ (max_greatest x y _ d.0 (≤ℤ_trans _ (max_z y z) _ c.0 d.1)) (≤ℤ_trans _ (max_z y z) _ c.1 d.1))
    (max_greatest x (max_z y z) _ (≤ℤ_trans _ (max_z x y) _ a.0 b.0) (max_greatest y z _ (≤ℤ_trans _ (max_z x y) _ a.1 b.0) b.1))

-- and the lesser or the greater is one of the two
pub min_one : (x y : ℤ) → (min_z x y ≡ x) ⊎ (min_z x y ≡ y)
min_one x y = go (le_z x y)
  where
    go : (b : Bool) → (cond b x y ≡ x) ⊎ (cond b x y ≡ y)
    go true = inl refl
    go false = inr refl

pub max_one : (x y : ℤ) → (max_z x y ≡ x) ⊎ (max_z x y ≡ y)
max_one x y = go (le_z x y)
  where
    go : (b : Bool) → (cond b y x ≡ x) ⊎ (cond b y x ≡ y)
    go true = inr refl
    go false = inl refl
