-- The size of an expression, by computing: bounds of its variables' sizes bound it, and so show that it fits a signed type.
-- Assumes nothing.
use Rattle.std.proofs.Common.{◌≡◌, ℕ, zero, suc, ◌+◌, ◌*◌, ◌^◌, ◌≤◌, T, ltb, List, [], ◌∷◌, ℤ, pos, negsuc, ◌+ℤ◌, ◌-ℤ◌, ◌*ℤ◌, neg_ℤ, nat_abs, refl, zero-le, le_trans, lt_of_le_of_lt, mul-le-mul, arith, ltb→lt, SFits}
use lib.Signed.{mag}
use mir.Syntax.{Width}
use mir.Val.{hbits}
use Rattle.integers.proofs.Differences.{up, dn}
use Rattle.integers.proofs.Order.{zarith, sub_parts, abs_parts, thin}
use Rattle.integers.proofs.Polynomials.{Expr, var, con, neg, ◌:+◌, ◌:-◌, ◌:*◌, at, eval}
use Rattle.integers.proofs.Linear.{two, lin}

abbrev pub at_n : List ℕ → ℕ → ℕ
at_n [] i = 0
at_n (b ∷ β) zero = b
at_n (b ∷ β) (suc i) = at_n β i

-- each variable is at most so large
abbrev pub Within : List ℤ → List ℕ → Type 0
Within [] β = Unit {0}
Within (x ∷ ρ) [] = ⊥
Within (x ∷ ρ) (b ∷ β) = (nat_abs x ≤ b) × Within ρ β

abbrev pub size : List ℕ → Expr → ℕ
size β (var i) = at_n β i
size β (con z) = nat_abs z
size β (a :+ b) = size β a + size β b
size β (a :- b) = size β a + size β b
size β (a :* b) = size β a * size β b
size β (neg a) = size β a

abs_le : (z : ℤ) (u d : ℕ) → up z + d ≡ u + dn z → nat_abs z ≤ u + d
abs_le (pos n) u d h = omega arith
abs_le (negsuc n) u d h = omega arith

at_le : (ρ : List ℤ) (β : List ℕ) (i : ℕ) → Within ρ β → nat_abs (at ρ i) ≤ at_n β i
at_le [] β i h = zero-le
at_le (x ∷ ρ) [] i h = absurd h
at_le (x ∷ ρ) (b ∷ β) zero h = h.0
at_le (x ∷ ρ) (b ∷ β) (suc i) h = at_le ρ β i h.1

two_le : (ρ : List ℤ) (β : List ℕ) (e : Expr) → Within ρ β → (two ρ e).0 + (two ρ e).1 ≤ size β e
two_le ρ β (var i) h = omega (arith, abs_parts (at ρ i), at_le ρ β i h)
two_le ρ β (con z) h = omega (arith, abs_parts z)
two_le ρ β (a :+ b) h = omega (arith, two_le ρ β a h, two_le ρ β b h)
two_le ρ β (a :- b) h = omega (arith, two_le ρ β a h, two_le ρ β b h)
two_le ρ β (a :* b) h = omega (arith, mul-le-mul (two_le ρ β a h) (two_le ρ β b h))
two_le ρ β (neg a) h = omega (arith, two_le ρ β a h)

pub abs_size : (ρ : List ℤ) (β : List ℕ) (e : Expr) → Within ρ β → nat_abs (eval ρ e) ≤ size β e
abs_size ρ β e h = le_trans (abs_le (eval ρ e) (two ρ e).0 (two ρ e).1 (lin ρ e)) (two_le ρ β e h)

mag_abs : (z : ℤ) → mag z ≤ nat_abs z
mag_abs (pos n) = omega arith
mag_abs (negsuc n) = omega arith

pub fits : (w : Width) (ρ : List ℤ) (β : List ℕ) (e : Expr) → Within ρ β → T (ltb (size β e) (2 ^ hbits w)) → SFits w (eval ρ e)
fits w ρ β e h t = record { sfits = lt_of_le_of_lt (le_trans (mag_abs (eval ρ e)) (abs_size ρ β e h)) (ltb→lt (size β e) (2 ^ hbits w) t) }

-- ---- sums and differences
pub abs_add : (x y : ℤ) → nat_abs (x +ℤ y) ≤ nat_abs x + nat_abs y
abs_add x y = abs_size (x ∷ y ∷ []) (nat_abs x ∷ nat_abs y ∷ []) (var 0 :+ var 1) (omega arith, (omega arith, tt))

pub abs_sub : (x y : ℤ) → nat_abs (x -ℤ y) ≤ nat_abs x + nat_abs y
abs_sub x y = abs_size (x ∷ y ∷ []) (nat_abs x ∷ nat_abs y ∷ []) (var 0 :- var 1) (omega arith, (omega arith, tt))

pub abs_flip : (x y : ℤ) → nat_abs (x -ℤ y) ≡ nat_abs (y -ℤ x)
abs_flip x y = omega (zarith, sub_parts x y, sub_parts y x, abs_parts (x -ℤ y), abs_parts (y -ℤ x), thin (x -ℤ y), thin (y -ℤ x))

-- numbers of two signs lie as far apart as their sizes add up to
pub abs_apart : (m n : ℕ) → nat_abs (pos m -ℤ negsuc n) ≡ m + suc n
abs_apart m n = omega (zarith, sub_parts (pos m) (negsuc n), abs_parts (pos m -ℤ negsuc n), thin (pos m -ℤ negsuc n))

-- ---- products
abs_negated : (n : ℕ) → nat_abs (neg_ℤ (pos n)) ≡ n
abs_negated zero = refl
abs_negated (suc n) = refl

pub abs_mul : (x y : ℤ) → nat_abs (x *ℤ y) ≡ nat_abs x * nat_abs y
abs_mul (pos m) (pos n) = refl
abs_mul (pos m) (negsuc n) = abs_negated (m * suc n)
abs_mul (negsuc m) (pos n) = abs_negated (suc m * n)
abs_mul (negsuc m) (negsuc n) = refl
