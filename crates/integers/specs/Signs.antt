-- The sign of an integer, and the tests of it.
use Rattle.std.specs.Prelude.{zero, suc, Bool, true, false, ℤ, pos, negsuc}
use Rattle.integers.specs.declared.Sign.{Sign}
use Rattle.integers.specs.declared.Sign.TheVariants.{Negative, Zero, Positive}

abbrev pub sign_of : ℤ → Sign
sign_of (pos zero) = Zero
sign_of (pos (suc n)) = Positive
sign_of (negsuc n) = Negative

abbrev pub is_negative : Sign → Bool
is_negative Negative = true
is_negative Zero = false
is_negative Positive = false

abbrev pub is_zero : Sign → Bool
is_zero Negative = false
is_zero Zero = true
is_zero Positive = false

abbrev pub is_positive : Sign → Bool
is_positive Negative = false
is_positive Zero = false
is_positive Positive = true
