-- An integer as a difference of two naturals, a ⊖ b, and the rules that carry the ring and the order of ℤ to ℕ.
use Rattle.std.proofs.Common.{◌≡◌, ℕ, zero, suc, ◌+◌, ◌-◌, ◌*◌, ◌<◌, ◌≤◌, Bool, true, false, cond, not, T, ltb, ◌↔◌, ℤ, pos, negsuc, ◌+ℤ◌, ◌*ℤ◌, neg_ℤ, ◌≤ℤ◌, ◌<ℤ◌, sym, refl, ap, subst, arith, le→leb, ltb→lt, lt→ltb, leb→le, nltb→le}
use lib.IntN.{sub_ℕ}

infix 60 ◌⊖◌
pub ◌⊖◌ : ℕ → ℕ → ℤ
a ⊖ b = sub_ℕ a b

-- "z is a − b": by the form of z
abbrev pub IsDiff : ℤ → ℕ → ℕ → Type 0
IsDiff (pos k) a b = a ≡ b + k
IsDiff (negsuc k) a b = b ≡ a + suc k

cond_diff : (c : Bool) (a b : ℕ) → (T c → b ≡ a + suc (b - suc a)) → (T (not c) → a ≡ b + (a - b)) → IsDiff (cond c (negsuc (b - suc a)) (pos (a - b))) a b
cond_diff true a b f g = f tt
cond_diff false a b f g = g tt

is_sub : (a b : ℕ) → IsDiff (sub_ℕ a b) a b
is_sub a b = cond_diff (ltb a b) a b (λ t. omega (arith, ltb→lt a b t)) (λ t. omega (arith, nltb→le a b t))

pub is_⊖ : (a b : ℕ) → IsDiff (a ⊖ b) a b
unfolding ◌⊖◌
is_⊖ a b = is_sub a b

-- what stands for one difference is one integer
pub diff_unique : (x y : ℤ) (a b c d : ℕ) → IsDiff x a b → IsDiff y c d → a + d ≡ c + b → x ≡ y
diff_unique (pos k) (pos l) a b c d h g e = ap pos (omega arith)
diff_unique (pos k) (negsuc l) a b c d h g e = absurd (omega arith)
diff_unique (negsuc k) (pos l) a b c d h g e = absurd (omega arith)
diff_unique (negsuc k) (negsuc l) a b c d h g e = ap negsuc (omega arith)

is_neg : (x : ℤ) (a b : ℕ) → IsDiff x a b → IsDiff (neg_ℤ x) b a
is_neg (pos zero) a b h = omega arith
is_neg (pos (suc k)) a b h = omega arith
is_neg (negsuc k) a b h = omega arith

-- a difference, written with other naturals
is_move : (x : ℤ) (a b c d : ℕ) → IsDiff x a b → a + d ≡ c + b → IsDiff x c d
is_move (pos k) a b c d h e = omega arith
is_move (negsuc k) a b c d h e = omega arith

is_add : (x y : ℤ) (a b c d : ℕ) → IsDiff x a b → IsDiff y c d → IsDiff (x +ℤ y) (a + c) (b + d)
is_add (pos k) (pos l) a b c d h g = omega arith
is_add (pos k) (negsuc l) a b c d h g = is_move (sub_ℕ k (suc l)) k (suc l) (a + c) (b + d) (is_sub k (suc l)) (omega arith)
is_add (negsuc k) (pos l) a b c d h g = is_move (sub_ℕ l (suc k)) l (suc k) (a + c) (b + d) (is_sub l (suc k)) (omega arith)
is_add (negsuc k) (negsuc l) a b c d h g = omega arith

is_pos : (k : ℕ) → IsDiff (pos k) k 0
is_pos k = omega arith

is_mul : (x y : ℤ) (a b c d : ℕ) → IsDiff x a b → IsDiff y c d → IsDiff (x *ℤ y) (a * c + b * d) (a * d + b * c)
is_mul (pos k) (pos l) a b c d h g = rw (h, g) (omega arith)
is_mul (pos k) (negsuc l) a b c d h g = is_neg (pos (k * suc l)) _ _ (rw (h, g) (omega arith))
is_mul (negsuc k) (pos l) a b c d h g = is_neg (pos (suc k * l)) _ _ (rw (h, g) (omega arith))
is_mul (negsuc k) (negsuc l) a b c d h g = rw (h, g) (omega arith)

-- ---- the rules: `simp diff (omega arith)` proves a law of ℤ at differences
pub pos_⊖ : (k : ℕ) → pos k ≡ k ⊖ 0
pos_⊖ k = diff_unique (pos k) (k ⊖ 0) k 0 k 0 (is_pos k) (is_⊖ k 0) refl

pub ⊖_eq : (a b c d : ℕ) → a + d ≡ c + b → a ⊖ b ≡ c ⊖ d
⊖_eq a b c d e = diff_unique (a ⊖ b) (c ⊖ d) a b c d (is_⊖ a b) (is_⊖ c d) e

pub ⊖_neg : (a b : ℕ) → neg_ℤ (a ⊖ b) ≡ b ⊖ a
⊖_neg a b = diff_unique _ _ b a b a (is_neg (a ⊖ b) a b (is_⊖ a b)) (is_⊖ b a) refl

pub ⊖_add : (a b c d : ℕ) → a ⊖ b +ℤ c ⊖ d ≡ (a + c) ⊖ (b + d)
⊖_add a b c d = diff_unique _ _ _ _ _ _ (is_add (a ⊖ b) (c ⊖ d) a b c d (is_⊖ a b) (is_⊖ c d)) (is_⊖ (a + c) (b + d)) refl

pub ⊖_mul : (a b c d : ℕ) → a ⊖ b *ℤ c ⊖ d ≡ (a * c + b * d) ⊖ (a * d + b * c)
⊖_mul a b c d = diff_unique _ _ _ _ _ _ (is_mul (a ⊖ b) (c ⊖ d) a b c d (is_⊖ a b) (is_⊖ c d)) (is_⊖ (a * c + b * d) (a * d + b * c)) refl

eq_⊖' : (x y : ℤ) (a b c d : ℕ) → IsDiff x a b → IsDiff y c d → x ≡ y → a + d ≡ c + b
eq_⊖' (pos k) y a b c d h g e = let j : IsDiff (pos k) c d = subst (λ z. IsDiff z c d) (sym e) g in omega arith
eq_⊖' (negsuc k) y a b c d h g e = let j : IsDiff (negsuc k) c d = subst (λ z. IsDiff z c d) (sym e) g in omega arith

pub eq_⊖ : (a b c d : ℕ) → (a ⊖ b ≡ c ⊖ d) ↔ (a + d ≡ c + b)
eq_⊖ a b c d = (eq_⊖' (a ⊖ b) (c ⊖ d) a b c d (is_⊖ a b) (is_⊖ c d), ⊖_eq a b c d)

le_⊖' : (x y : ℤ) (a b c d : ℕ) → IsDiff x a b → IsDiff y c d → (x ≤ℤ y) ↔ (a + d ≤ c + b)
le_⊖' (pos k) (pos l) a b c d h g = (λ r. omega (arith, leb→le k l r.le), λ e. record { le = le→leb k l (omega arith) })
le_⊖' (pos k) (negsuc l) a b c d h g = (λ r. absurd r.le, λ e. absurd (omega arith))
le_⊖' (negsuc k) (pos l) a b c d h g = (λ r. omega arith, λ e. record { le = tt })
le_⊖' (negsuc k) (negsuc l) a b c d h g = (λ r. omega (arith, leb→le l k r.le), λ e. record { le = le→leb l k (omega arith) })

pub le_⊖ : (a b c d : ℕ) → (a ⊖ b ≤ℤ c ⊖ d) ↔ (a + d ≤ c + b)
le_⊖ a b c d = le_⊖' (a ⊖ b) (c ⊖ d) a b c d (is_⊖ a b) (is_⊖ c d)

lt_⊖' : (x y : ℤ) (a b c d : ℕ) → IsDiff x a b → IsDiff y c d → (x <ℤ y) ↔ (a + d < c + b)
lt_⊖' (pos k) (pos l) a b c d h g = (λ r. omega (arith, ltb→lt k l r.lt), λ e. record { lt = lt→ltb k l (omega arith) })
lt_⊖' (pos k) (negsuc l) a b c d h g = (λ r. absurd r.lt, λ e. absurd (omega arith))
lt_⊖' (negsuc k) (pos l) a b c d h g = (λ r. omega arith, λ e. record { lt = tt })
lt_⊖' (negsuc k) (negsuc l) a b c d h g = (λ r. omega (arith, ltb→lt l k r.lt), λ e. record { lt = lt→ltb l k (omega arith) })

pub lt_⊖ : (a b c d : ℕ) → (a ⊖ b <ℤ c ⊖ d) ↔ (a + d < c + b)
lt_⊖ a b c d = lt_⊖' (a ⊖ b) (c ⊖ d) a b c d (is_⊖ a b) (is_⊖ c d)

-- ---- the bridge: every integer is the difference of two naturals, of which one is 0
abbrev pub up : ℤ → ℕ
up (pos n) = n
up (negsuc n) = 0

abbrev pub dn : ℤ → ℕ
dn (pos n) = 0
dn (negsuc n) = suc n

is_parts : (z : ℤ) → IsDiff z (up z) (dn z)
is_parts (pos n) = omega arith
is_parts (negsuc n) = omega arith

pub parts : (z : ℤ) → z ≡ up z ⊖ dn z
parts z = diff_unique z (up z ⊖ dn z) _ _ _ _ (is_parts z) (is_⊖ (up z) (dn z)) refl

-- a statement of integers is proved at differences
pub byℕ : (S : ℤ → Type 0) → ((a b : ℕ) → S (a ⊖ b)) → (z : ℤ) → S z
byℕ S f z = subst S (sym (parts z)) (f (up z) (dn z))

pub byℕ₂ : (S : ℤ → ℤ → Type 0) → ((a b c d : ℕ) → S (a ⊖ b) (c ⊖ d)) → (x y : ℤ) → S x y
byℕ₂ S f x y = byℕ (λ z. S z y) (λ a b. byℕ (S (a ⊖ b)) (λ c d. f a b c d) y) x

pub byℕ₃ : (S : ℤ → ℤ → ℤ → Type 0) → ((a b c d e f : ℕ) → S (a ⊖ b) (c ⊖ d) (e ⊖ f)) → (x y z : ℤ) → S x y z
byℕ₃ S f x y z = byℕ (λ u. S u y z) (λ a b. byℕ₂ (S (a ⊖ b)) (λ c d e g. f a b c d e g) y z) x

pub ruleset diff = (pos_⊖, ⊖_neg, ⊖_add, ⊖_mul, eq_⊖, le_⊖, lt_⊖)
