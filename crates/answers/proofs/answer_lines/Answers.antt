-- `answers::answer_lines` meets its contract.
use mathlib.Core.Path.{refl, subst}
use lib.IntN.{pos}
use lib.ListN.{drop, replicate}
use Rattle.fields.specs.Pieces.{split}
use Rattle.prepare.specs.Tables.{Tables, Prepared}
use Rattle.answers.proofs.Lines.{wrote_same}
use Rattle.answers.proofs.LookUps.{tables_prepared, replies_held, due_held, never_unprepared}
use Rattle.answers.proofs.answer_lines.Goals as goal
use Rattle.answers.proofs.answer_lines.Goals.{After-prepare, In-Ok}
use Rattle.prepare.specs.Answers.{ready_with}

-- the tables that preparing leaves
abbrev left : After-prepare → Tables
left c = let t = c.prepare.new in record { corners = t.corners; rings = t.rings; polygons = t.polygons; boxes = t.boxes; parts = t.parts; edges = t.edges }

-- the tables before it: zeros, of the ceilings' lengths
abbrev zeros : Tables
zeros = record { corners = replicate 1024 (pos 0); rings = replicate 256 0; polygons = replicate 256 0; boxes = replicate 127 (replicate 4 (pos 0)); parts = replicate 127 (replicate 3 0); edges = replicate 512 0 }

-- what preparing says
said : (c : After-prepare) → Prepared c.args.plan.now zeros (left c) c.prepare.result
said c = c.prepare.ensures

-- the plan is prepared
was_prepared : (c : In-Ok) → Prepared c.args.plan.now zeros (left (goal.at.In-Ok c).After-prepare) (ready_with c.in-Ok.ready.state c.in-Ok.ready.nodes)
was_prepared c = subst (Prepared c.args.plan.now zeros (left (goal.at.In-Ok c).After-prepare)) c.in-Ok.is (said (goal.at.In-Ok c).After-prepare)

pub put_replies-requires : goal.put_replies-requires
put_replies-requires c = let p = was_prepared (goal.at.put_replies-requires c).In-Ok in (tables_prepared c.args.plan.now zeros (left (goal.at.put_replies-requires c).After-prepare) c.in-Ok.ready.state c.in-Ok.ready.nodes p, due_held c.args.plan.now zeros (left (goal.at.put_replies-requires c).After-prepare) c.in-Ok.ready.state c.in-Ok.ready.nodes p c.args.input.now c.args.first c.args.number c.args.output.now c.requires.1)

pub returns-in-Ok : goal.returns-in-Ok
returns-in-Ok c = let p = was_prepared (goal.at.returns-in-Ok c).In-Ok in wrote_same _ _ c.args.output.now _ c.put_replies.result (replies_held c.args.plan.now zeros (left (goal.at.returns-in-Ok c).After-prepare) c.in-Ok.ready.state c.in-Ok.ready.nodes p c.args.number (split 10 (drop c.args.first c.args.input.now))) c.put_replies.ensures

pub returns-in-Err : goal.returns-in-Err
returns-in-Err c = never_unprepared c.args.plan.now c.requires.0 zeros (left (goal.at.returns-in-Err c).After-prepare) c.in-Err.field-0 refl (subst (Prepared c.args.plan.now zeros (left (goal.at.returns-in-Err c).After-prepare)) c.in-Err.is (said (goal.at.returns-in-Err c).After-prepare))
