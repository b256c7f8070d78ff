-- The words that say what a line after the plan asks (document 01, "Trays to try"), as bytes.
use Rattle.std.specs.Prelude.{List, [], ◌∷◌, ℕ}

-- `coin`, before a point of the grid
abbrev pub grid_word : List ℕ
grid_word = 99 ∷ 111 ∷ 105 ∷ 110 ∷ []

-- `half`, before a doubled point
abbrev pub half_word : List ℕ
half_word = 104 ∷ 97 ∷ 108 ∷ 102 ∷ []
