-- Polygons as text (document 02, R-1): "one space after its first word, after each comma and between numbers, and no other".
use Rattle.std.specs.Prelude.{List, [], ◌∷◌, ◌++◌, map, ℕ}
use Rattle.fields.specs.Decimals.{decimal}
use Rattle.geom.specs.declared.Point.{Point}
use Rattle.rules.specs.Plans.{Plan, polygons_of}
use Rattle.grammar.specs.Words.{multipolygon, empty}
use Rattle.grammar.specs.Grammar.{Ring, Polygon}

-- `, ` item `, ` item .. `)`
unfoldable pub after : {A : Type 0} → (A → List ℕ) → List A → List ℕ
after text [] = 41 ∷ []
after text (item ∷ items) = 44 ∷ 32 ∷ (text item ++ after text items)

-- `(` item `, ` item .. `)`
unfoldable pub in_brackets : {A : Type 0} → (A → List ℕ) → List A → List ℕ
in_brackets text [] = 40 ∷ 41 ∷ []
in_brackets text (item ∷ items) = 40 ∷ (text item ++ after text items)

abbrev pub pair_text : Point → List ℕ
pair_text p = decimal p.x ++ (32 ∷ decimal p.y)

abbrev pub ring_text : Ring → List ℕ
ring_text ring = in_brackets pair_text ring

abbrev pub polygon_text : Polygon → List ℕ
polygon_text rings = in_brackets ring_text rings

-- a list of polygons, "and a plan of no polygons gives `MULTIPOLYGON EMPTY`"
unfoldable pub wkt_text : List Polygon → List ℕ
wkt_text [] = multipolygon ++ (32 ∷ empty)
wkt_text (rings ∷ polygons) = multipolygon ++ (32 ∷ in_brackets polygon_text (rings ∷ polygons))

-- the first corner repeated at the end
unfoldable pub closed : Ring → Ring
closed [] = []
closed (p ∷ ring) = p ∷ (ring ++ (p ∷ []))

-- all but the last
unfoldable pub drop_last : Ring → Ring
drop_last [] = []
drop_last (p ∷ []) = []
drop_last (p ∷ q ∷ ring) = p ∷ drop_last (q ∷ ring)

-- the text of a list plan: "the repeated last corner of each ring is .. added on writing"
unfoldable pub wkt_of : Plan → List ℕ
wkt_of plan = wkt_text (map (map closed) (polygons_of plan))
