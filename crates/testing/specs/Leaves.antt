-- The leaves of one, two and three numbers.
use Rattle.std.specs.Prelude.{◌≡◌, ℤ, pos, negsuc, ◌-ℤ◌}
use Rattle.integers.specs.declared.Sign.{Sign}
use Rattle.integers.specs.declared.Sign.TheVariants.{Negative, Zero, Positive}
use Rattle.integers.specs.Extremes.{min_z, max_z}
use Rattle.integers.specs.Halves.{floor_half, ceiling_half}
use Rattle.integers.specs.Signs.{sign_of}
use Rattle.integers.specs.Words.{value_of, wide_value_of}
use Rattle.geom.specs.declared.Point.{Point}
use Rattle.geom.specs.Boxes.{empty_rect, rect_of, union_of, meets, holds_point, holds_rect}
use Rattle.geom.specs.Range.{in_range, in_doubled_range}
use Rattle.predicates.specs.Turn.{orientation, on_segment}
use Rattle.testing.specs.declared.leaves.Halves.{Halves}
use Rattle.testing.specs.declared.leaves.Pair.{Pair}
use Rattle.testing.specs.declared.leaves.Turn.{Turn}
use Rattle.testing.specs.declared.leaves.Words.{Words}

abbrev pub halves_of : ℤ → Halves
halves_of z = record { floor = floor_half z; ceiling = ceiling_half z; in_range = in_range (record { x = z; y = pos 0 }); in_doubled_range = in_doubled_range (record { x = pos 0; y = z }) }

pub record PairOf (a b : ℤ) (r : Pair) : Type 0 where
  pub least : r.least ≡ min_z a b
  pub greatest : r.greatest ≡ max_z a b
  pub difference : value_of (record { borrow = r.borrow; word = r.word }) ≡ a -ℤ b

abbrev pub sign_number : Sign → ℤ
sign_number Negative = negsuc 0
sign_number Zero = pos 0
sign_number Positive = pos 1

abbrev pub turn_at : Point → Point → Point → Turn
turn_at p q r =
    record {
      sign = sign_number (sign_of (orientation p q r));
      on_segment = on_segment p q r;
      in_box = holds_point (rect_of p q) r;
      meets = meets (rect_of p q) (rect_of q r);
      holds = holds_rect (union_of (rect_of p q) empty_rect) (rect_of p r);
    }

-- what two words and their borrow stand for (document 02, R-2)
abbrev pub words_value : Words → ℤ
words_value w = wide_value_of (record { borrow = w.borrow; words = record { hi = w.high; lo = w.low } })
