-- What a line after the plan asks (document 01, "Trays to try": `coin`, x, y or `half`, doubled x, doubled y).
use Rattle.std.specs.Prelude.{Bool, false, cond, ◌||◌, List, [], ◌∷◌, ℕ, Option, Some, None, option_map}
use Rattle.fields.specs.Bytes.{same_bytes}
use Rattle.lines.specs.Records.{point_of}
use Rattle.rules.specs.declared.Spot.{Spot}
use Rattle.rules.specs.declared.Spot.TheVariants.{OnGrid, Doubled}
use Rattle.asked.specs.Words.{grid_word, half_word}

-- the word says on which grid
unfoldable pub word_query : List ℕ → List ℕ → List ℕ → Option Spot
word_query word x y = cond (same_bytes word grid_word) (option_map OnGrid (point_of x y)) (cond (same_bytes word half_word) (option_map Doubled (point_of x y)) None)

-- by its fields: exactly three
unfoldable pub query_of : List (List ℕ) → Option Spot
query_of [] = None
query_of (word ∷ []) = None
query_of (word ∷ x ∷ []) = None
query_of (word ∷ x ∷ y ∷ []) = word_query word x y
query_of (word ∷ x ∷ y ∷ more ∷ fields) = None

-- whether a line's first field makes it one that asks, well formed or not: the first such line ends the plan
unfoldable pub asks : List (List ℕ) → Bool
asks [] = false
asks (word ∷ fields) = same_bytes word grid_word || same_bytes word half_word
