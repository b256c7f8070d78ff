-- A decimal number of 64 bits, a byte at a time (document 01, item 10).
use Rattle.std.specs.Prelude.{Bool, true, false, cond, ◌&&◌, ℕ, zero, suc, ◌+◌, ◌-◌, ◌*◌, ◌^◌, eqb, leb, ltb, ℤ, pos, negsuc, Option, Some, None}

-- a number: −1 − size if it is below nought, else its size. Every number is one pair, and every pair one number
pub record Whole : Type 0 where
  pub below : Bool
  pub size : ℕ

-- what of a number has been read: a minus, the decimal text of this number, or what no number begins with
pub data Begun : Type 0 where
  minus_begun : Begun
  value_begun : Whole → Begun
  off_begun : Begun

abbrev pub is_digit : ℕ → Bool
is_digit b = leb 48 b && leb b 57

abbrev pub value_of : Whole → ℤ
value_of w = cond w.below (negsuc w.size) (pos w.size)

abbrev pub plain : ℕ → Whole
plain n = record { below = false; size = n }

-- −1 − n
abbrev pub under : ℕ → Whole
under n = record { below = true; size = n }

-- and back
abbrev pub whole_of : ℤ → Whole
whole_of (pos n) = plain n
whole_of (negsuc n) = under n

-- of 64 bits
abbrev pub fitting : Whole → Begun
fitting w = cond (ltb w.size (2 ^ 63)) (value_begun w) off_begun

abbrev pub first_byte : ℕ → Begun
first_byte b = cond (eqb b 45) minus_begun (cond (is_digit b) (value_begun (plain (b - 48))) off_begun)

-- a minus and a digit
abbrev pub negative : ℕ → Begun
negative zero = off_begun
negative (suc d) = value_begun (under d)

-- a digit d after the decimal text of a number
abbrev pub after_plain : ℕ → ℕ → Begun
after_plain zero d = off_begun
after_plain (suc n) d = fitting (plain (suc n * 10 + d))

abbrev pub after_value : Whole → ℕ → Begun
after_value w d = cond w.below (fitting (under (w.size * 10 + 9 + d))) (after_plain w.size d)

-- a digit d more
abbrev pub next_digit : Begun → ℕ → Begun
next_digit minus_begun d = negative d
next_digit (value_begun w) d = after_value w d
next_digit off_begun d = off_begun

-- the number whose decimal text has been read, if it is one's
abbrev pub begun_number : Begun → Option ℤ
begun_number minus_begun = None
begun_number (value_begun w) = Some (value_of w)
begun_number off_begun = None
