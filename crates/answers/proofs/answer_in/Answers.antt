-- `answers::answer_in` meets its contract.
use mathlib.Core.Path.{◌≡◌, sym, ap, ◌∙◌}
use Prim.Native.Nat.{◌*◌, ◌≤◌}
use native.Mathlib.Omega.{arith}
use lib.ListN.{length, take, drop, length-take}
use Rattle.fields.specs.Pieces.{split}
use Rattle.rules.specs.Plans.{Plan}
use Rattle.text.specs.Readings.{reading}
use Rattle.text.proofs.Answers.{Given, given}
use Rattle.text.proofs.Held.{counts_fit, plan_held_lem}
use Rattle.answers.specs.Replies.{replies}
use Rattle.answers.proofs.Lines.{wrote_same}
use Rattle.answers.proofs.Judged.{refused_line, refused_room, replies_due, plan_admitted, plan_due}
use Rattle.answers.proofs.answer_in.Goals as goal
use Rattle.answers.proofs.answer_in.Goals.{After-read_plan, In-Ok}

-- what reading the plan's part answers
read_as : (c : After-read_plan) → c.read_plan.result ≡ reading (take c.first_query-place.result.from c.args.input.now) 1024 256 256
read_as c =
    let t = c.requires.2 in
    c.read_plan.ensures.answer ∙ (λ i. reading (take c.first_query-place.result.from c.args.input.now) (t.0 i) (t.1 i) (t.2 i))

-- the plan that was read
was_given : (c : In-Ok) → Given (take c.first_query-place.result.from c.args.input.now) 1024 256 256 c.in-Ok.size
was_given c = given (take c.first_query-place.result.from c.args.input.now) 1024 256 256 c.in-Ok.size (sym c.in-Ok.is ∙ read_as (goal.at.In-Ok c).After-read_plan)

-- the tables start with it
held : (c : In-Ok) → let r = c.read_plan in let s = c.in-Ok.size in ◌≡◌ {A = Plan} (record { kind = s.kind; coordinates = take (2 * s.corners) r.new.corners; lengths = take s.rings r.new.lengths; counts = take s.polygons r.new.counts }) (was_given c).plan
held c =
    let a = c.args in
    let r = c.read_plan in
    plan_held_lem (take c.first_query-place.result.from a.input.now) 1024 256 256 c.in-Ok.size (was_given c) a.corners.now r.new.corners a.lengths.now r.new.lengths a.counts.now r.new.counts (rw c.in-Ok.is at r.ensures.corners_written) (rw c.in-Ok.is at r.ensures.lengths_written) (rw c.in-Ok.is at r.ensures.counts_written)

pub slice_bounds-read_plan-end : goal.slice_bounds-read_plan-end
slice_bounds-read_plan-end c = let w = c.first_query-place.ensures.within in simp length-take (omega arith)

pub first_plan-plan-requires : goal.first_plan-plan-requires
first_plan-plan-requires c = let w = counts_fit _ _ _ _ _ (was_given (goal.at.first_plan-plan-requires c).In-Ok) in let k = c.read_plan.auto in let p = c.requires in (omega arith, omega arith, omega arith)

pub answer_lines-requires : goal.answer_lines-requires
answer_lines-requires c = let f = c.first_query-place in let size = c.in-Ok.size in let given = was_given (goal.at.answer_lines-requires c).In-Ok in let is = c.first_plan-plan.ensures ∙ held (goal.at.answer_lines-requires c).In-Ok in (plan_admitted c.args.input.now c.requires.0 f.result f.ensures size given _ is, plan_due c.args.input.now c.requires.0 f.result f.ensures size given _ c.args.output.now is c.requires.1)

pub put_refusal-requires : goal.put_refusal-requires
put_refusal-requires c = let f = c.first_query-place in let refusal = c.in-Err.refusal in let told = sym c.in-Err.is ∙ read_as (goal.at.put_refusal-requires c).After-read_plan in refused_room c.args.input.now c.requires.0 f.result f.ensures refusal (length c.args.output.now) c.requires.1 told

pub returns-in-Ok : goal.returns-in-Ok
returns-in-Ok c = let i = c.args.input.now in let f = c.first_query-place in let z = c.in-Ok.size in let r = c.answer_lines in wrote_same _ _ c.args.output.now _ r.result (ap (λ plan. replies plan f.result.line (split 10 (drop f.result.from i))) (c.first_plan-plan.ensures ∙ held (goal.at.returns-in-Ok c).In-Ok) ∙ sym (replies_due i c.requires.0 f.result f.ensures z (was_given (goal.at.returns-in-Ok c).In-Ok))) r.ensures

pub returns-in-Err : goal.returns-in-Err
returns-in-Err c = let f = c.first_query-place in let refusal = c.in-Err.refusal in let told = sym c.in-Err.is ∙ read_as (goal.at.returns-in-Err c).After-read_plan in let r = c.put_refusal in wrote_same _ _ c.args.output.now _ r.result (refused_line c.args.input.now c.requires.0 f.result f.ensures refusal told) r.ensures
