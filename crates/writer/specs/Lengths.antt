-- How many bytes the parts of a written list have, and that its numbers have 64 bits (document 02, R-1).
use Rattle.std.specs.Prelude.{◌≡◌, Bool, false, not, List, map, ℕ, ◌+◌, ◌*◌, ◌≤◌, ℤ, length, take}
use Rattle.fields.specs.Decimals.{decimal, fits_word}
use Rattle.rules.specs.Lists.{any_of, total}
use Rattle.rules.specs.Plans.{Plan, corners_of}
use Rattle.grammar.specs.Grammar.{Ring}
use Rattle.grammar.specs.Texts.{ring_text, closed, wkt_of}
use Rattle.writer.specs.Drawn.{closed_rings}

abbrev pub unfit : ℤ → Bool
unfit z = not (fits_word z)

-- every number has 64 bits, as the numbers of a lent table have
abbrev pub AllFit : List ℤ → Type 0
AllFit numbers = any_of unfit numbers ≡ false

-- the bytes of all decimal texts together
abbrev pub decimals_of : List ℤ → ℕ
decimals_of numbers = total (map (λ z. length (decimal z)) numbers)

abbrev pub ring_length : Ring → ℕ
ring_length ring = length (ring_text ring)

-- of numbers: at most 20 bytes each
pub record Decimals (numbers : List ℤ) (r : ℕ) : Type 0 where
  pub exact : r ≡ decimals_of numbers
  pub small : r ≤ 20 * length numbers
  pub fits : AllFit numbers

-- of a ring: at most 43 bytes a position, the repeated one counted
pub record RingLong (ring : List ℤ) (r : ℕ) : Type 0 where
  pub exact : r ≡ ring_length (closed (corners_of ring))
  pub small : r ≤ 43 * (length (corners_of ring) + 1)
  pub fits : AllFit ring

-- of rings, without what stands between them
pub record RingsLong (coordinates : List ℤ) (lengths : List ℕ) (r : ℕ) : Type 0 where
  pub exact : r ≡ total (map ring_length (closed_rings coordinates lengths))
  pub small : r ≤ 43 * (total lengths + length lengths)
  pub fits : AllFit (take (2 * total lengths) coordinates)

-- of the whole text
pub record TextLong (plan : Plan) (r : ℕ) : Type 0 where
  pub exact : r ≡ length (wkt_of plan)
  pub fits : AllFit plan.coordinates
