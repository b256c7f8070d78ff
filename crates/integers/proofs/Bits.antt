-- A signed value that went through bits, `to_z w64 (of_z w64 z)`, as the machine leaves it in a goal. Assumes nothing.
use Rattle.std.proofs.Common.{◌≡◌, ◌^◌, ◌<◌, ℤ, nat_abs, sym, ◌∙◌, subst, arith, to_z-of_z, w64, SFits, to_z, of_z}
use Rattle.std.specs.Int.{int_min, int_max}
use Rattle.integers.specs.Extremes.{min_z, max_z}
use Rattle.integers.proofs.Order.{abs_parts, mag_parts}
use Rattle.integers.proofs.Signs.{int_min-min, int_max-max}

-- read back
abbrev pub rd : ℤ → ℤ
rd z = to_z w64 (of_z w64 z)

pub abs_fits : (z : ℤ) → nat_abs z < 2 ^ 63 → SFits w64 z
abs_fits z h = record { sfits = omega (arith, abs_parts z, mag_parts z) }

pub rd_is : (z : ℤ) → SFits w64 z → rd z ≡ z
rd_is z f = to_z-of_z {z = z} f

-- an operation on values that were read from bits: what it reads, that its result fits, and its result stored
pub read₂ : (f : ℤ → ℤ → ℤ) (a b : ℤ) → SFits w64 a → SFits w64 b → f (rd a) (rd b) ≡ f a b
read₂ f a b fa fb = λ i. f (rd_is a fa i) (rd_is b fb i)

pub fit₂ : (f : ℤ → ℤ → ℤ) (a b : ℤ) → SFits w64 a → SFits w64 b → SFits w64 (f a b) → SFits w64 (f (rd a) (rd b))
fit₂ f a b fa fb h = subst (SFits w64) (sym (read₂ f a b fa fb)) h

pub val₂ : (f : ℤ → ℤ → ℤ) (a b : ℤ) → SFits w64 a → SFits w64 b → SFits w64 (f a b) → rd (f (rd a) (rd b)) ≡ f a b
val₂ f a b fa fb h = rd_is (f (rd a) (rd b)) (fit₂ f a b fa fb h) ∙ read₂ f a b fa fb

pub fit₁ : (f : ℤ → ℤ) (a : ℤ) → SFits w64 a → SFits w64 (f a) → SFits w64 (f (rd a))
fit₁ f a fa h = fit₂ (λ x y. f x) a a fa fa h

pub val₁ : (f : ℤ → ℤ) (a : ℤ) → SFits w64 a → SFits w64 (f a) → rd (f (rd a)) ≡ f a
val₁ f a fa h = val₂ (λ x y. f x) a a fa fa h

-- a callee's result, stored, where the callee was passed a and b
pub got₂ : (f : ℤ → ℤ → ℤ) (a b r : ℤ) → SFits w64 a → SFits w64 b → SFits w64 r → r ≡ f (rd a) (rd b) → rd r ≡ f a b
got₂ f a b r fa fb fr e = rd_is r fr ∙ e ∙ read₂ f a b fa fb

-- the library's least and greatest of two values
pub least : (a b r : ℤ) → SFits w64 a → SFits w64 b → SFits w64 r → r ≡ int_min (rd a) (rd b) → rd r ≡ min_z a b
least a b r fa fb fr e = got₂ int_min a b r fa fb fr e ∙ int_min-min a b

pub greatest : (a b r : ℤ) → SFits w64 a → SFits w64 b → SFits w64 r → r ≡ int_max (rd a) (rd b) → rd r ≡ max_z a b
greatest a b r fa fb fr e = got₂ int_max a b r fa fb fr e ∙ int_max-max a b
