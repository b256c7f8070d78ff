-- Wrong programs that the contracts rule out, whatever their code is: what a promise gives where such a program gives something else.
-- Assumes nothing.
use Rattle.std.proofs.Common.{◌≡◌, ℕ, ◌*◌, ◌^◌, ◌<◌, Bool, true, false, pos, negsuc, ◌-ℤ◌, refl, arith}
use Rattle.integers.specs.Halves.{ceiling_half}
use Rattle.std.specs.Int.{from_bool}
use Rattle.integers.specs.declared.Sign.TheVariants.{Negative, Positive}
use Rattle.integers.specs.declared.Signed.{Signed}
use Rattle.integers.specs.declared.Wide.{Wide}
use Rattle.integers.specs.declared.SignedWide.{SignedWide}
use Rattle.integers.specs.Signs.{sign_of}
use Rattle.integers.specs.Words.{value_of, size_of, word_pair, wide_value_of, top_bit}
use Rattle.integers.proofs.Borrows.{size_small}
use Rattle.integers.proofs.Order.{zarith, sub_parts}

-- a ceiling that floors
half_up : ceiling_half (pos 1) ≡ pos 1
half_up = refl

-- a difference whose sign is lost
below_zero_lem : value_of (record { borrow = true; word = 18446744073709551615 }) ≡ negsuc 0
below_zero_lem = refl

-- a high word of a product that has none: 2 times 3 is 6, and not 2^64 + 6
no_high_word : size_of (record { hi = 1; lo = 6 }) ≡ 18446744073709551622
unfolding size_of
no_high_word = refl

-- what is less than k with a borrow of k, and what it is, show in the value
parted : (b c : Bool) (m n k : ℕ) → m < k → n < k → pos m -ℤ pos (from_bool b * k) ≡ pos n -ℤ pos (from_bool c * k) → (b ≡ c) × (m ≡ n)
parted true true m n k h g e = (refl, omega (zarith, sub_parts (pos m) (pos (1 * k)), sub_parts (pos n) (pos (1 * k))))
parted true false m n k h g e = absurd (omega (zarith, sub_parts (pos m) (pos (1 * k)), sub_parts (pos n) (pos (0 * k))))
parted false true m n k h g e = absurd (omega (zarith, sub_parts (pos m) (pos (0 * k)), sub_parts (pos n) (pos (1 * k))))
parted false false m n k h g e = (refl, omega (zarith, sub_parts (pos m) (pos (0 * k)), sub_parts (pos n) (pos (0 * k))))

-- another word, or another borrow, for one number: a word with a borrow of one value is one
one_word : (d e : Signed) → d.word < 2 ^ 64 → e.word < 2 ^ 64 → value_of d ≡ value_of e → d ≡ e
one_word d e hd he same = let both = parted d.borrow e.borrow d.word e.word (2 ^ 64) hd he same in λ i. record { borrow = both.0 i; word = both.1 i }

-- two words of one size are one
one_size : (v w : Wide) → v.lo < 2 ^ 64 → w.lo < 2 ^ 64 → size_of v ≡ size_of w → v ≡ w
unfolding size_of
one_size v w h k e =
    let hi : v.hi ≡ w.hi = omega arith in
    let lo : v.lo ≡ w.lo = omega arith in
    λ i. record { hi = hi i; lo = lo i }

-- other words, or another borrow, for one difference: two words with a borrow of one value are one
one_value : (d e : SignedWide) → d.words.hi < 2 ^ 64 → d.words.lo < 2 ^ 64 → e.words.hi < 2 ^ 64 → e.words.lo < 2 ^ 64 → wide_value_of d ≡ wide_value_of e → d ≡ e
unfolding wide_value_of
one_value d e dh dl eh el same =
    let sizes = parted d.borrow e.borrow (size_of d.words) (size_of e.words) word_pair (size_small d.words dh dl) (size_small e.words eh el) same in
    let words = one_size d.words e.words dl el sizes.1 in
    λ i. record { borrow = sizes.0 i; words = words i }

-- a sign read off the words alone: all ones are −1 where the word above was borrowed from, and 2^128 − 1 where it was not
abbrev all_ones : Wide
all_ones = record { hi = 18446744073709551615; lo = 18446744073709551615 }

borrow_tells : (sign_of (wide_value_of (record { borrow = true; words = all_ones })) ≡ Negative) × (sign_of (wide_value_of (record { borrow = false; words = all_ones })) ≡ Positive)
unfolding wide_value_of size_of word_pair
borrow_tells = (refl, refl)

-- a sign read off the low word alone: 2^64 has none
high_tells : sign_of (wide_value_of (record { borrow = false; words = record { hi = 1; lo = 0 } })) ≡ Positive
unfolding wide_value_of size_of word_pair
high_tells = refl

-- a top bit that is not the one of 2^127
top_tells : (top_bit (record { hi = 9223372036854775808; lo = 0 }) ≡ true) × (top_bit (record { hi = 9223372036854775807; lo = 18446744073709551615 }) ≡ false)
top_tells = (refl, refl)
