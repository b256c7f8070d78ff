-- The lesser and the greater of two integers.
use Rattle.std.specs.Prelude.{cond, ℤ, int_le}

abbrev pub min_z : ℤ → ℤ → ℤ
min_z x y = cond (int_le x y) x y

abbrev pub max_z : ℤ → ℤ → ℤ
max_z x y = cond (int_le x y) y x
