-- What words with a borrow stand for (document 02, R-2).
use Rattle.std.specs.Prelude.{ℕ, ◌+◌, ◌*◌, ◌^◌, Bool, ℤ, pos, ◌-ℤ◌, nat_le}
use Rattle.std.specs.Int.{from_bool}
use Rattle.integers.specs.declared.Signed.{Signed}
use Rattle.integers.specs.declared.Wide.{Wide}
use Rattle.integers.specs.declared.SignedWide.{SignedWide}

-- a word, less 2^64 where the word above was borrowed from
abbrev pub value_of : Signed → ℤ
value_of s = pos s.word -ℤ pos (from_bool s.borrow * 2 ^ 64)

-- hi · 2^64 + lo
unfoldable pub size_of : Wide → ℕ
size_of w = w.hi * 2 ^ 64 + w.lo

-- 2^128: how many sizes two words have
unfoldable pub word_pair : ℕ
word_pair = 2 ^ 64 * 2 ^ 64

-- hi · 2^64 + lo, less 2^128 where the word above was borrowed from
unfoldable pub wide_value_of : SignedWide → ℤ
wide_value_of d = pos (size_of d.words) -ℤ pos (from_bool d.borrow * word_pair)

-- the top bit of two words
abbrev pub top_bit : Wide → Bool
top_bit w = nat_le (2 ^ 63) w.hi

-- two words alone, read as a signed number: the top bit stands for the borrow
abbrev pub signed_words_of : Wide → ℤ
signed_words_of w = wide_value_of (record { borrow = top_bit w; words = w })
