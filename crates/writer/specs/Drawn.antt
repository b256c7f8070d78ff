-- What the writer asks of a plan, and the parts of a written list (document 02, R-1).
use Rattle.std.specs.Prelude.{◌≡◌, false, List, [], ◌∷◌, ◌++◌, map, ℕ, zero, suc, ◌≤◌, eqb, ℤ, length}
use Rattle.rules.specs.declared.Kind.TheVariants.{Polygons}
use Rattle.rules.specs.Lists.{any_of, total, parts_of}
use Rattle.rules.specs.Plans.{Plan, corners_of, polygons_of, plan_verdict}
use Rattle.grammar.specs.Grammar.{Ring, Polygon}
use Rattle.grammar.specs.Texts.{closed}
use Rattle.rules.specs.Answering.{Accepted}

-- no ring is empty: "a tree or an empty ring gets 22"
abbrev pub Full : List ℕ → Type 0
Full lengths = any_of (λ n. eqb n 0) lengths ≡ false

-- a list that can be written: neither 4, 3 nor 22
pub record Drawn (plan : Plan) : Type 0 where
  pub list : plan.kind ≡ Polygons
  pub accepted : plan_verdict plan ≡ Accepted
  pub full : Full plan.lengths

-- rings that can be written: none is empty, and there are corners for all of them
pub record Rings (coordinates : List ℤ) (lengths : List ℕ) : Type 0 where
  pub full : Full lengths
  pub enough : total lengths ≤ length (corners_of coordinates)

-- rings of these lengths, the first corner of each repeated at its end
abbrev pub closed_rings : List ℤ → List ℕ → List Ring
closed_rings coordinates lengths = map closed (parts_of lengths (corners_of coordinates))

-- the polygons of a list, with closed rings
abbrev pub closed_polygons : Plan → List Polygon
closed_polygons plan = map (map closed) (polygons_of plan)

-- what stands before item i: `(` before the first, `, ` before each other
abbrev pub lead : ℕ → List ℕ
lead zero = 40 ∷ []
lead (suc i) = 44 ∷ 32 ∷ []

-- items from item i on, with what stands before each
unfoldable pub leads : {A : Type 0} → (A → List ℕ) → ℕ → List A → List ℕ
leads text i [] = []
leads text i (item ∷ items) = lead i ++ (text item ++ leads text (suc i) items)
