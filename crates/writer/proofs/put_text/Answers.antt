-- `writer::put_text` meets its contract.
use borrow.Author.Rules.{rules}
use mathlib.Core.Path.{◌≡◌, subst, sym}
use mathlib.Core.List.{[], ◌∷◌, ◌++◌}
use Prim.Native.Nat.{◌≤◌}
use native.Mathlib.Omega.{arith}
use lib.ListN.{length}
use Rattle.fields.specs.Written.{Wrote}
use Rattle.grammar.specs.Words.{multipolygon}
use Rattle.grammar.specs.Texts.{polygon_text, wkt_of}
use Rattle.writer.specs.Drawn.{closed_polygons, leads}
use Rattle.writer.proofs.Leads.{Three, room_one, room_two, room_three, wrote_three}
use Rattle.writer.proofs.Whole.{no_polygons, some_polygons}
use Rattle.writer.proofs.put_text.Goals as goal
use Rattle.writer.proofs.put_text.Goals.{Then-is_empty, Else-is_empty}

-- the plan has no polygons
none : (c : Then-is_empty) → length c.args.plan.now.counts ≡ 0
none c = subst (λ plan. length plan.counts ≡ 0) c.plan.view_is (search rules)

-- it has some
some : (c : Else-is_empty) → length c.args.plan.now.counts ≡ 0 → ⊥
some c = subst (λ plan. length plan.counts ≡ 0 → ⊥) c.plan.view_is (search rules)

pub put-requires : goal.put-requires
put-requires c = subst (λ s. length s ≤ length c.args.output.now) (no_polygons c.args.plan.now (none (goal.at.put-requires c).Then-is_empty)) c.requires.1

pub returns-then-is_empty : goal.returns-then-is_empty
returns-then-is_empty c =
    subst (λ s. Wrote 0 s c.args.output.now c.put.new.output c.put.result) (sym (no_polygons c.args.plan.now (none (goal.at.returns-then-is_empty c).Then-is_empty))) c.put.ensures

-- its text in three
three : (c : Else-is_empty) → Three (wkt_of c.args.plan.now) (multipolygon ++ (32 ∷ [])) (leads polygon_text 0 (closed_polygons c.args.plan.now)) (41 ∷ [])
three c = some_polygons c.args.plan.now (some c)

pub put-start-requires : goal.put-start-requires
put-start-requires c = room_one (three (goal.at.put-start-requires c).Else-is_empty) 0 c.args.output.now (omega (arith, c.requires.1))

pub put_polygons-end-requires : goal.put_polygons-end-requires
put_polygons-end-requires c =
    (c.requires.0, room_two (three (goal.at.put_polygons-end-requires c).Else-is_empty) 0 c.args.output.now (omega (arith, c.requires.1)) _ _ c.put-start.ensures)

pub put-requires-2 : goal.put-requires-2
put-requires-2 c = room_three (three (goal.at.put-requires-2 c).Else-is_empty) 0 c.args.output.now (omega (arith, c.requires.1)) _ _ c.put-start.ensures _ _ c.put_polygons-end.ensures

pub returns : goal.returns
returns c = wrote_three (three (goal.at.returns c).Else-is_empty) 0 c.args.output.now (omega (arith, c.requires.1)) _ _ c.put-start.ensures _ _ c.put_polygons-end.ensures _ _ c.put-2.ensures
