-- The words of a plan's text (document 01, item 10), as bytes.
use Rattle.std.specs.Prelude.{List, [], ◌∷◌, ℕ}

abbrev pub plan : List ℕ
plan = 112 ∷ 108 ∷ 97 ∷ 110 ∷ []

abbrev pub list : List ℕ
list = 108 ∷ 105 ∷ 115 ∷ 116 ∷ []

abbrev pub tree : List ℕ
tree = 116 ∷ 114 ∷ 101 ∷ 101 ∷ []

abbrev pub outer : List ℕ
outer = 111 ∷ 117 ∷ 116 ∷ 101 ∷ 114 ∷ []

abbrev pub hole : List ℕ
hole = 104 ∷ 111 ∷ 108 ∷ 101 ∷ []

abbrev pub node : List ℕ
node = 110 ∷ 111 ∷ 100 ∷ 101 ∷ []

abbrev pub at : List ℕ
at = 97 ∷ 116 ∷ []
