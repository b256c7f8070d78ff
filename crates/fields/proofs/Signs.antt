-- A number's decimal text by its sign and its size. Assumes nothing.
use mathlib.Core.Path.{◌≡◌, ap, sym, subst, ◌∙◌}
use mathlib.Core.Bool.{true, false, true≢false}
use mathlib.Core.List.{List, [], ◌∷◌, ◌++◌}
use Prim.Native.Nat.{ℕ, suc, ◌+◌, ◌^◌, ◌≤◌}
use native.Mathlib.Omega.{arith}
use lib.IntN.{ℤ, pos, negsuc, nat_abs}
use lib.ListN.{length, length-append}
use lib.Signed.{lt_z}
use borrow.Author.Tests.{ltb-true}
use Rattle.fields.specs.Decimals.{digits, decimal, fits_word}
use Rattle.fields.specs.Written.{Wrote}
use Rattle.fields.proofs.Written.{wrote_on, digits_below}

pub plain_text : (z : ℤ) (n : ℕ) → lt_z z (pos 0) ≡ false → n ≡ nat_abs z → decimal z ≡ digits n
unfolding decimal
plain_text (pos n) m h e = ap digits (sym e)
plain_text (negsuc n) m h e = absurd (true≢false h)

pub below_text : (z : ℤ) (n : ℕ) → lt_z z (pos 0) ≡ true → n ≡ nat_abs z → decimal z ≡ (45 ∷ []) ++ digits n
unfolding decimal
below_text (pos n) m h e = absurd (let k = ltb-true n 0 h in omega (arith, k))
below_text (negsuc n) m h e = ap (λ k. 45 ∷ digits k) (sym e)

pub below_length : (z : ℤ) (n : ℕ) → lt_z z (pos 0) ≡ true → n ≡ nat_abs z → length (decimal z) ≡ 1 + length (digits n)
below_length z n h e = ap length (below_text z n h e) ∙ length-append (45 ∷ []) (digits n)

-- a number of 64 bits has at most 19 digits and a minus
pub decimal_short : (z : ℤ) → fits_word z ≡ true → length (decimal z) ≤ 20
unfolding decimal
decimal_short (pos n) f = let h = ltb-true n (2 ^ 63) f in digits_below 19 n (omega (arith, h))
decimal_short (negsuc n) f = let h = ltb-true n (2 ^ 63) f in let l = digits_below 18 (suc n) (omega (arith, h)) in omega (arith, l)

pub minus_wrote : (at : ℕ) (z : ℤ) (n : ℕ) (output output' output'' : List ℕ) (m r : ℕ) → lt_z z (pos 0) ≡ true → n ≡ nat_abs z → at + length (decimal z) ≤ length output → Wrote at (45 ∷ []) output output' m → Wrote m (digits n) output' output'' r → Wrote at (decimal z) output output'' r
minus_wrote at z n output output' output'' m r h e room f g = subst (λ s. Wrote at s output output'' r) (sym (below_text z n h e)) (wrote_on at (45 ∷ []) output (let l = below_length z n h e in omega (arith, l)) (digits n) output' output'' m r f g)

pub plain_wrote : (at : ℕ) (z : ℤ) (n : ℕ) (output output' : List ℕ) (r : ℕ) → lt_z z (pos 0) ≡ false → n ≡ nat_abs z → Wrote at (digits n) output output' r → Wrote at (decimal z) output output' r
plain_wrote at z n output output' r h e g = subst (λ s. Wrote at s output output' r) (sym (plain_text z n h e)) g
