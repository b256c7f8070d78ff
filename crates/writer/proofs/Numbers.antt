-- Numbers of 64 bits and the bytes of their decimal texts. Assumes nothing.
use mathlib.Core.Path.{◌≡◌, refl, ap, sym, subst, ◌∙◌}
use mathlib.Core.Bool.{true, not, ◌||◌}
use mathlib.Core.List.{List, [], ◌∷◌, ◌++◌}
use Prim.Native.Nat.{ℕ, ◌+◌, ◌*◌, ◌^◌, ◌≤◌, ◌<◌}
use native.Mathlib.Omega.{arith}
use borrow.Author.Tests.{lt-ltb}
use lib.IntN.{ℤ, pos, negsuc}
use lib.ListN.{length, get_or, drop_of_length-le}
use lib.Seq.{drop-cons}
use mir.Syntax.{w64}
use mir.Val.{SFits}
use Rattle.integers.proofs.Tests.{or_false}
use Rattle.fields.specs.Decimals.{decimal, fits_word}
use Rattle.fields.proofs.Signs.{decimal_short}
use Rattle.rules.specs.Lists.{any_of}
use Rattle.plans.proofs.Searches.{Undecided, passed, none, element}
use Rattle.writer.specs.Lengths.{unfit, AllFit, Decimals}
use Rattle.writer.proofs.Sums.{Summed, summed, summed_on, summed_up}

word_fits : (z : ℤ) → SFits w64 z → fits_word z ≡ true
word_fits (pos n) f = lt-ltb n (2 ^ 63) f.sfits
word_fits (negsuc n) f = lt-ltb n (2 ^ 63) f.sfits

pub fit_append : (a b : List ℤ) → AllFit a → AllFit b → AllFit (a ++ b)
unfolding any_of
fit_append [] b f g = g
fit_append (z ∷ a) b f g = let h = or_false (unfit z) _ f in ap (λ t. t || any_of unfit (a ++ b)) h.0 ∙ fit_append a b h.1 g

-- the numbers before number i are counted, and have 64 bits
pub record Counting (numbers : List ℤ) (sum i : ℕ) : Type 0 where
  pub few : i ≤ length numbers
  pub so_far : Summed (λ z. length (decimal z)) numbers sum i
  pub small : sum ≤ 20 * i
  pub fits : Undecided unfit numbers i

pub counting : (numbers : List ℤ) → Counting numbers 0 0
counting numbers = record { few = omega arith; so_far = summed (λ z. length (decimal z)) numbers; small = omega arith; fits = refl }

module _ (numbers : List ℤ) (sum i : ℕ) (k : Counting numbers sum i) where
  module _ (h : i < length numbers) (f : SFits w64 (get_or numbers i (pos 0))) (n : ℕ) (e : n ≡ length (decimal (get_or numbers i (pos 0)))) where
    pub number_short : n ≤ 20
    number_short = let s = decimal_short (get_or numbers i (pos 0)) (word_fits _ f) in omega (arith, s, e)

    pub counting_on : Counting numbers (sum + n) (i + 1)
    counting_on =
        let s = number_short in
        let t = k.small in
        record {
          few = omega (arith, h);
          so_far = subst (λ m. Summed (λ z. length (decimal z)) numbers (sum + m) (i + 1)) (sym e) (summed_on (λ z. length (decimal z)) numbers sum i k.so_far (get_or numbers i (pos 0)) (drop-cons numbers i (pos 0) h));
          small = omega (arith, s, t);
          fits = passed unfit numbers i (get_or numbers i (pos 0)) (element numbers i (pos 0) h) (ap not (word_fits _ f)) k.fits;
        }

  pub counted : length numbers ≤ i → Decimals numbers sum
  counted h =
      let l = k.few in
      let t = k.small in
      record {
        exact = summed_up (λ z. length (decimal z)) numbers sum i k.so_far (drop_of_length-le numbers {i = i} h);
        small = omega (arith, l, t);
        fits = sym (none unfit numbers i h k.fits);
      }
