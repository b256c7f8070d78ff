-- The whole text of a list: none, or its first word and its polygons in brackets. Assumes nothing.
use mathlib.Core.Path.{◌≡◌, refl, ap, ◌∙◌}
use mathlib.Core.List.{List, [], ◌∷◌, ◌++◌}
use Prim.Native.Nat.{◌<◌}
use native.Mathlib.Omega.{arith}
use lib.ListN.{length}
use Rattle.rules.specs.Plans.{Plan}
use Rattle.grammar.specs.Grammar.{Polygon}
use Rattle.grammar.specs.Words.{multipolygon, empty}
use Rattle.grammar.specs.Texts.{polygon_text, wkt_text, wkt_of}
use Rattle.writer.specs.Drawn.{closed_polygons, leads}
use Rattle.writer.proofs.Leads.{Three, brackets_leads}
use Rattle.writer.proofs.Members.{polygons_count}

none : (polygons : List Polygon) → length polygons ≡ 0 → wkt_text polygons ≡ multipolygon ++ (32 ∷ empty)
unfolding wkt_text
none [] e = refl
none (rings ∷ polygons) e = absurd (omega (arith, e))

some : (polygons : List Polygon) → 0 < length polygons → wkt_text polygons ≡ ((multipolygon ++ (32 ∷ [])) ++ leads polygon_text 0 polygons) ++ (41 ∷ [])
unfolding wkt_text
some [] h = absurd (omega arith)
some (rings ∷ polygons) h = ap (λ s. multipolygon ++ (32 ∷ s)) (brackets_leads polygon_text (rings ∷ polygons) h)

module _ (plan : Plan) where
  pub no_polygons : length plan.counts ≡ 0 → wkt_of plan ≡ multipolygon ++ (32 ∷ empty)
  unfolding wkt_of
  no_polygons e = none (closed_polygons plan) (polygons_count plan ∙ e)

  -- the first word, the polygons and the last bracket
  pub some_polygons : (length plan.counts ≡ 0 → ⊥) → Three (wkt_of plan) (multipolygon ++ (32 ∷ [])) (leads polygon_text 0 (closed_polygons plan)) (41 ∷ [])
  unfolding wkt_of
  some_polygons e = record { is = some (closed_polygons plan) (let l = polygons_count plan in omega (arith, e, l)) }
