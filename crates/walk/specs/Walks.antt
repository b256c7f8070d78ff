-- Whole walks: which edges come, and how often (document 01, items 5 and 6).
use Rattle.std.specs.Prelude.{◌≡◌, true, List, [], ◌∷◌, ℕ, suc, ◌≤◌, ◌<◌, eqb, ℤ, length, get_or}
use Rattle.rules.specs.Lists.{count_of}
use Rattle.boxes.specs.Boxes.{edge_box}
use Rattle.walk.specs.declared.Cursor.{Cursor}
use Rattle.walk.specs.declared.Query.{Query}
use Rattle.walk.specs.Steps.{enters, Walking, MissedAt}

-- the edges yielded, the latest first, when so many places of the edge list are behind the walk: each was yielded, or passed over
-- because its box is not one to enter
pub data Yielded (corners : List ℤ) (rings edges : List ℕ) (query : Query) : ℕ → List ℕ → Type 0 where
  none : Yielded corners rings edges query 0 []
  over : {at : ℕ} {es : List ℕ} → Yielded corners rings edges query at es → MissedAt corners rings edges query at → Yielded corners rings edges query (suc at) es
  edge : {at : ℕ} {es : List ℕ} → Yielded corners rings edges query at es → Yielded corners rings edges query (suc at) (get_or edges at 0 ∷ es)

-- what a caller's loop carries, on sound tables: where the walk stands, and what it has yielded
pub record Walked (n : ℕ) (corners : List ℤ) (rings : List ℕ) (parts : List (List ℕ)) (edges : List ℕ) (query : Query) (stack : List ℕ) (cursor : Cursor) (es : List ℕ) : Type 0 where
  pub walking : Walking n parts stack cursor
  pub yielded : Yielded corners rings edges query cursor.at es

-- what holds of the edges yielded at any time: they are edge numbers, none comes twice, so there are at most n
pub record SomeEdges (n : ℕ) (es : List ℕ) : Type 0 where
  pub inside : (e : ℕ) → n ≤ e → count_of (λ x. eqb x e) es ≡ 0
  pub once : (e : ℕ) → count_of (λ x. eqb x e) es ≤ 1
  pub few : length es ≤ n

-- and at the end: each edge whose box is one to enter has come
pub record AllMet (n : ℕ) (corners : List ℤ) (rings : List ℕ) (query : Query) (es : List ℕ) : Type 0 where
  pub some : SomeEdges n es
  pub all : (e : ℕ) → e < n → enters query (edge_box corners rings e) ≡ true → count_of (λ x. eqb x e) es ≡ 1
