-- Which texts are Well-Known Text here, and what they say (document 02, R-1).
use Rattle.std.specs.Prelude.{◌≡◌, true, List, [], ◌∷◌, ◌++◌, ℕ, ℤ}
use Rattle.fields.specs.Decimals.{decimal, fits_word}
use Rattle.geom.specs.declared.Point.{Point}
use Rattle.grammar.specs.Words.{polygon, multipolygon, empty}

abbrev pub Ring : Type 0
Ring = List Point

abbrev pub Polygon : Type 0
Polygon = List Ring

-- any number of spaces, byte 32
pub data Spaces : List ℕ → Type 0 where
  none : Spaces []
  more : {s : List ℕ} → Spaces s → Spaces (32 ∷ s)

-- a bracket or a comma: "spaces are free round brackets and commas"
pub data Mark (c : ℕ) : List ℕ → Type 0 where
  round : {a b : List ℕ} → Spaces a → Spaces b → Mark c (a ++ (c ∷ b))

-- x and y, numbers of item 10: "one or more part the numbers of a pair"
pub data Pair : Point → List ℕ → Type 0 where
  pair : (x y : ℤ) {a : List ℕ} → fits_word x ≡ true → fits_word y ≡ true → Spaces a → Pair (record { x = x; y = y }) (decimal x ++ (32 ∷ (a ++ decimal y)))

-- `,` item `,` item .. `)`; 44 is the comma and 41 the closing bracket
pub data Rest (A : Type 0) (L : A → List ℕ → Type 0) : List A → List ℕ → Type 0 where
  close : {m : List ℕ} → Mark 41 m → Rest A L [] m
  next : {item : A} {items : List A} {m s t : List ℕ} → Mark 44 m → L item s → Rest A L items t → Rest A L (item ∷ items) (m ++ (s ++ t))

-- `(` item `,` item .. `)`: one item at least; 40 is the opening bracket
pub data Bracketed (A : Type 0) (L : A → List ℕ → Type 0) : List A → List ℕ → Type 0 where
  bracketed : {item : A} {items : List A} {m s t : List ℕ} → Mark 40 m → L item s → Rest A L items t → Bracketed A L (item ∷ items) (m ++ (s ++ t))

-- a ring is never EMPTY
abbrev pub RingText : Ring → List ℕ → Type 0
RingText = Bracketed Point Pair

abbrev pub PolygonText : Polygon → List ℕ → Type 0
PolygonText = Bracketed Ring RingText

-- a member of a MULTIPOLYGON; an EMPTY one has no rings
pub data Member : Polygon → List ℕ → Type 0 where
  full : {rings : Polygon} {s : List ℕ} → PolygonText rings s → Member rings s
  bare : Member [] empty

-- "an EMPTY member adds no polygon"
unfoldable pub kept : List Polygon → List Polygon
kept [] = []
kept ([] ∷ members) = kept members
kept ((ring ∷ rings) ∷ members) = (ring ∷ rings) ∷ kept members

-- the texts, with the polygons that they give
pub data Text : List Polygon → List ℕ → Type 0 where
  one : {rings : Polygon} {s : List ℕ} → PolygonText rings s → Text (rings ∷ []) (polygon ++ s)
  one_empty : {a : List ℕ} → Spaces a → Text [] (polygon ++ (32 ∷ (a ++ empty)))
  many : {members : List Polygon} {s : List ℕ} → Bracketed Polygon Member members s → Text (kept members) (multipolygon ++ s)
  many_empty : {a : List ℕ} → Spaces a → Text [] (multipolygon ++ (32 ∷ (a ++ empty)))

-- some text of the grammar begins so
abbrev pub Begins : List ℕ → Type 0
Begins s = (rest : List ℕ) × (polygons : List Polygon) × Text polygons (s ++ rest)
