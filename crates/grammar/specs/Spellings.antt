-- What a text spells: its polygons, or the place at which it leaves the grammar (document 02, R-1, refusal 21).
use Rattle.std.specs.Prelude.{List, ℕ, suc, ◌≤◌, ◌<◌, length, take}
use Rattle.grammar.specs.Grammar.{Polygon, Text, Begins}

pub data Spelling : Type 0 where
  spells : List Polygon → Spelling
  breaks : ℕ → Spelling

-- "the place, from 0, of the first byte up to which no text of the grammar begins so (the length if it only ends early)"
pub record BreaksAt (text : List ℕ) (k : ℕ) : Type 0 where
  pub off : (polygons : List Polygon) → Text polygons text → ⊥
  pub inside : k ≤ length text
  pub so_far : (j : ℕ) → j ≤ k → Begins (take j text)
  pub no_farther : k < length text → Begins (take (suc k) text) → ⊥

-- what a text spells, by the grammar alone
abbrev pub Means : List ℕ → Spelling → Type 0
Means text (spells polygons) = Text polygons text
Means text (breaks k) = BreaksAt text k
