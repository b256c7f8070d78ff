-- The ordered ring ℤ: what lib.IntN and lib.Signed leave out, and the bridge by which `omega` decides linear facts of ℤ.
-- Each law is one line: carried to ℕ by `diff`, closed by `omega`. Assumes nothing.
use Rattle.std.proofs.Common.{◌≡◌, ℕ, ◌+◌, ◌-◌, ◌<◌, ◌≤◌, min, ◌↔◌, ℤ, pos, negsuc, ◌+ℤ◌, ◌-ℤ◌, ◌*ℤ◌, neg_ℤ, nat_abs, ◌≤ℤ◌, ◌<ℤ◌, sym, ap, ◌∙◌, mul-le-mul_right, arith}
use lib.IntN.{*ℤ_comm}
use lib.Signed.{mag}
use Rattle.integers.proofs.Differences.{◌⊖◌, byℕ₂, byℕ₃, diff, up, dn, parts, ⊖_add, ⊖_neg, eq_⊖, le_⊖, lt_⊖}

-- ---- the ring
pub *ℤ_assoc : (x y z : ℤ) → x *ℤ y *ℤ z ≡ x *ℤ (y *ℤ z)
*ℤ_assoc = byℕ₃ (λ x y z. x *ℤ y *ℤ z ≡ x *ℤ (y *ℤ z)) (λ a b c d e f. simp diff (omega arith))

pub *ℤ_distl : (x y z : ℤ) → x *ℤ (y +ℤ z) ≡ x *ℤ y +ℤ x *ℤ z
*ℤ_distl = byℕ₃ (λ x y z. x *ℤ (y +ℤ z) ≡ x *ℤ y +ℤ x *ℤ z) (λ a b c d e f. simp diff (omega arith))

pub *ℤ_distr : (x y z : ℤ) → (x +ℤ y) *ℤ z ≡ x *ℤ z +ℤ y *ℤ z
*ℤ_distr = byℕ₃ (λ x y z. (x +ℤ y) *ℤ z ≡ x *ℤ z +ℤ y *ℤ z) (λ a b c d e f. simp diff (omega arith))

pub neg_*ℤ : (x y : ℤ) → neg_ℤ x *ℤ y ≡ neg_ℤ (x *ℤ y)
neg_*ℤ = byℕ₂ (λ x y. neg_ℤ x *ℤ y ≡ neg_ℤ (x *ℤ y)) (λ a b c d. simp diff (omega arith))

pub +ℤ_left_comm : (x y z : ℤ) → x +ℤ (y +ℤ z) ≡ y +ℤ (x +ℤ z)
+ℤ_left_comm = byℕ₃ (λ x y z. x +ℤ (y +ℤ z) ≡ y +ℤ (x +ℤ z)) (λ a b c d e f. simp diff (omega arith))

pub *ℤ_left_comm : (x y z : ℤ) → x *ℤ (y *ℤ z) ≡ y *ℤ (x *ℤ z)
*ℤ_left_comm x y z = sym (*ℤ_assoc x y z) ∙ ap (λ t. t *ℤ z) (*ℤ_comm x y) ∙ *ℤ_assoc y x z

-- ---- the order
pub ≤ℤ_refl : (x : ℤ) → x ≤ℤ x
≤ℤ_refl x = byℕ₂ (λ x y. x ≤ℤ x) (λ a b c d. simp diff (omega arith)) x x

pub ≤ℤ_trans : (x y z : ℤ) → x ≤ℤ y → y ≤ℤ z → x ≤ℤ z
≤ℤ_trans = byℕ₃ (λ x y z. x ≤ℤ y → y ≤ℤ z → x ≤ℤ z) (λ a b c d e f. simp diff (omega arith))

pub ≤ℤ_antisym : (x y : ℤ) → x ≤ℤ y → y ≤ℤ x → x ≡ y
≤ℤ_antisym = byℕ₂ (λ x y. x ≤ℤ y → y ≤ℤ x → x ≡ y) (λ a b c d. simp diff (omega arith))

pub <ℤ→≤ℤ : (x y : ℤ) → x <ℤ y → x ≤ℤ y
<ℤ→≤ℤ = byℕ₂ (λ x y. x <ℤ y → x ≤ℤ y) (λ a b c d. simp diff (omega arith))

pub +ℤ_mono : (x y z : ℤ) → x ≤ℤ y → (x +ℤ z) ≤ℤ (y +ℤ z)
+ℤ_mono = byℕ₃ (λ x y z. x ≤ℤ y → (x +ℤ z) ≤ℤ (y +ℤ z)) (λ a b c d e f. simp diff (omega arith))

pub neg_mono : (x y : ℤ) → x ≤ℤ y → neg_ℤ y ≤ℤ neg_ℤ x
neg_mono = byℕ₂ (λ x y. x ≤ℤ y → neg_ℤ y ≤ℤ neg_ℤ x) (λ a b c d. simp diff (omega arith))

pub ≤_sub : (x y : ℤ) → (x ≤ℤ y) ↔ (pos 0 ≤ℤ (y -ℤ x))
≤_sub = byℕ₂ (λ x y. (x ≤ℤ y) ↔ (pos 0 ≤ℤ (y -ℤ x))) (λ a b c d. simp diff (omega arith))

-- multiplied by a number that is not negative
pub *ℤ_mono : (x y : ℤ) (k : ℕ) → x ≤ℤ y → (x *ℤ pos k) ≤ℤ (y *ℤ pos k)
*ℤ_mono x y k = byℕ₂ (λ x y. x ≤ℤ y → (x *ℤ pos k) ≤ℤ (y *ℤ pos k)) (λ a b c d. simp diff (λ h. omega (arith, mul-le-mul_right k h))) x y

-- ---- the bridge: `omega zarith` reads orders and equations of ℤ; up z and dn z are atoms to it
pub ≤ℤ→ℕ : (x y : ℤ) → x ≤ℤ y → up x + dn y ≤ up y + dn x
≤ℤ→ℕ x y h = (le_⊖ (up x) (dn x) (up y) (dn y)).0 (rw (← parts x, ← parts y) h)

pub <ℤ→ℕ : (x y : ℤ) → x <ℤ y → up x + dn y < up y + dn x
<ℤ→ℕ x y h = (lt_⊖ (up x) (dn x) (up y) (dn y)).0 (rw (← parts x, ← parts y) h)

pub ≡ℤ→ℕ : (x y : ℤ) → x ≡ y → up x + dn y ≡ up y + dn x
≡ℤ→ℕ x y h = (eq_⊖ (up x) (dn x) (up y) (dn y)).0 (rw (← parts x, ← parts y) h)

pub ℕ→≤ℤ : (x y : ℤ) → up x + dn y ≤ up y + dn x → x ≤ℤ y
ℕ→≤ℤ x y h = rw (← parts x, ← parts y) at ((le_⊖ (up x) (dn x) (up y) (dn y)).1 h)

pub ℕ→<ℤ : (x y : ℤ) → up x + dn y < up y + dn x → x <ℤ y
ℕ→<ℤ x y h = rw (← parts x, ← parts y) at ((lt_⊖ (up x) (dn x) (up y) (dn y)).1 h)

pub ℕ→≡ℤ : (x y : ℤ) → up x + dn y ≡ up y + dn x → x ≡ y
ℕ→≡ℤ x y h = parts x ∙ (eq_⊖ (up x) (dn x) (up y) (dn y)).1 h ∙ sym (parts y)

-- the parts of a sum, a difference and a negation, to hand to omega: one for each that the goal or a hypothesis holds
pub add_parts : (x y : ℤ) → up (x +ℤ y) + (dn x + dn y) ≡ (up x + up y) + dn (x +ℤ y)
add_parts x y = (eq_⊖ _ _ _ _).0 (sym (parts (x +ℤ y)) ∙ (ap (λ t. t +ℤ y) (parts x) ∙ ap (λ t. up x ⊖ dn x +ℤ t) (parts y)) ∙ ⊖_add (up x) (dn x) (up y) (dn y))

pub sub_parts : (x y : ℤ) → up (x -ℤ y) + (dn x + up y) ≡ (up x + dn y) + dn (x -ℤ y)
sub_parts x y = (eq_⊖ _ _ _ _).0 (sym (parts (x -ℤ y)) ∙ (ap (λ t. t -ℤ y) (parts x) ∙ ap (λ t. up x ⊖ dn x -ℤ t) (parts y)) ∙ ap (λ t. up x ⊖ dn x +ℤ t) (⊖_neg (up y) (dn y)) ∙ ⊖_add (up x) (dn x) (dn y) (up y))

pub neg_parts : (x : ℤ) → up (neg_ℤ x) + up x ≡ dn x + dn (neg_ℤ x)
neg_parts x = (eq_⊖ _ _ _ _).0 (sym (parts (neg_ℤ x)) ∙ ap neg_ℤ (parts x) ∙ ⊖_neg (up x) (dn x))

-- one of the two parts is 0; the sizes that nat_abs and mag give
pub thin : (z : ℤ) → min (up z) (dn z) ≡ 0
thin (pos n) = omega arith
thin (negsuc n) = omega arith

pub abs_parts : (z : ℤ) → nat_abs z ≡ up z + dn z
abs_parts (pos n) = omega arith
abs_parts (negsuc n) = omega arith

pub mag_parts : (z : ℤ) → mag z ≡ up z + (dn z - 1)
mag_parts (pos n) = omega arith
mag_parts (negsuc n) = omega arith

pub ruleset zarith = (arith, ≤ℤ→ℕ, <ℤ→ℕ, ≡ℤ→ℕ, ℕ→≤ℤ, ℕ→<ℤ, ℕ→≡ℤ)
