-- The product of two words, and a size of 0. Assumes nothing.
use Rattle.std.proofs.Common.{◌≡◌, ℕ, zero, suc, ◌+◌, ◌*◌, ◌/◌, ◌%◌, ◌^◌, ◌<◌, ◌≤◌, ◌&&◌, eqb, sym, refl, ap, ◌∙◌, mul_assoc, mul_comm, add-mul, mul-le-mul, div-add-mod', mul-add, arith, ne_eqb}

-- ---- the product by columns
abbrev pub half : ℕ
half = 4294967296

-- a · B · b is a · b · B
swap : (a b : ℕ) → a * half * b ≡ a * b * half
swap a b = mul_assoc a half b ∙ ap (λ (x : ℕ). a * x) (mul_comm half b) ∙ sym (mul_assoc a b half)

four : (a b c d : ℕ) → (a + b) * (c + d) ≡ a * c + a * d + (b * c + b * d)
four a b c d = add-mul a b (c + d) ∙ (λ i. mul-add a c d i + mul-add b c d i)

-- (a B + b) · (c B + d), by columns
columns : (a b c d : ℕ) → (a * half + b) * (c * half + d) ≡ (a * c * half + (a * d + b * c)) * half + b * d
columns a b c d =
    let e : a * half * (c * half) ≡ a * c * half * half = sym (mul_assoc (a * half) c half) ∙ ap (λ (x : ℕ). x * half) (swap a c) in
    omega (arith, four (a * half) b (c * half) d, e, swap a d, sym (mul_assoc b c half))

pub by_columns : (u v : ℕ) → ((u / half) * (v / half) * half + ((u / half) * (v % half) + (u % half) * (v / half))) * half + (u % half) * (v % half) ≡ u * v
by_columns u v = sym (columns (u / half) (u % half) (v / half) (v % half)) ∙ (λ i. div-add-mod' u half i * div-add-mod' v half i)

-- two half words
pub column_fits : (a b : ℕ) → a < half → b < half → a * b ≤ 18446744065119617025
column_fits a b ha hb = mul-le-mul {n₂ = 4294967295} {m₂ = 4294967295} (omega arith) (omega arith)

-- ---- a size of 0
pub both_zero : (hi lo : ℕ) → eqb hi 0 && eqb lo 0 ≡ eqb (hi * 2 ^ 64 + lo) 0
both_zero zero zero = refl
both_zero zero (suc lo) = ne_eqb (suc lo) 0 (λ e. omega arith) ∙ sym (ne_eqb (0 * 2 ^ 64 + suc lo) 0 (λ e. omega arith))
both_zero (suc hi) lo = ap (λ t. t && eqb lo 0) (ne_eqb (suc hi) 0 (λ e. omega arith)) ∙ sym (ne_eqb (suc hi * 2 ^ 64 + lo) 0 (λ e. omega arith))
