-- The words of what `findspot` writes (document 01, "Trays to try"), as bytes.
use Rattle.std.specs.Prelude.{List, [], ◌∷◌, ℕ}

abbrev pub inside : List ℕ
inside = 105 ∷ 110 ∷ 115 ∷ 105 ∷ 100 ∷ 101 ∷ []

abbrev pub outside : List ℕ
outside = 111 ∷ 117 ∷ 116 ∷ 115 ∷ 105 ∷ 100 ∷ 101 ∷ []

abbrev pub boundary : List ℕ
boundary = 98 ∷ 111 ∷ 117 ∷ 110 ∷ 100 ∷ 97 ∷ 114 ∷ 121 ∷ []

abbrev pub refused : List ℕ
refused = 114 ∷ 101 ∷ 102 ∷ 117 ∷ 115 ∷ 101 ∷ 100 ∷ []

-- fields are parted by byte 9, lines are ended by byte 10
abbrev pub tab : List ℕ
tab = 9 ∷ []

abbrev pub line_end : List ℕ
line_end = 10 ∷ []
