-- `walk::place::walk_to` meets its contract.
use mathlib.Core.Path.{refl, ◌∙◌}
use native.Mathlib.Omega.{arith}
use Rattle.std.proofs.lemmas.Result.{err_from_is_err_and}
use Rattle.walk.specs.declared.Query.TheVariants.{Holding}
use Rattle.walk.specs.Steps.{Yields}
use Rattle.walk.proofs.Seeking.{seeking_start, seeking_on, seeking_found, seeking_never, seeking_ended}
use Rattle.walk.proofs.place.walk_to.Goals as goal
use Rattle.walk.proofs.place.walk_to.Goals.{In-Some}

-- what a step that yields an edge says
yields : (c : In-Some) → Yields c.args.plan.now.n c.args.plan.now.boxes.now c.args.plan.now.parts.now c.args.plan.now.edges.now (Holding c.args.wanted) c.loop-step.stack c.loop-step.cursor c.next.new.stack c.in-Some.step
yields c = rw c.in-Some.is at c.in_ok-step.ensures

pub loop-step-init : goal.loop-step-init
loop-step-init c = let a = c.args in seeking_start a.plan.now.n a.plan.now.boxes.now a.plan.now.parts.now a.plan.now.edges.now a.wanted a.e _ _ refl refl c.start-cursor.ensures

pub overflow_sub-result : goal.overflow_sub-result
overflow_sub-result c = omega (arith, (yields (goal.at.overflow_sub-result c).In-Some).next)

pub returns-in_err-step : goal.returns-in_err-step
returns-in_err-step c =
    let a = c.args in
    let l = c.loop-step in
    let refused = err_from_is_err_and c.from_residual.result c.from_residual.ensures.1 in
    rw refused.1 (seeking_never a.plan.now.n a.plan.now.boxes.now a.plan.now.parts.now a.plan.now.edges.now a.wanted a.e l.stack l.cursor l.invariant c.in_err-step.ensures.never)

pub returns-then-step-e : goal.returns-then-step-e
returns-then-step-e c =
    let a = c.args in
    let l = c.loop-step in
    seeking_found a.plan.now.n a.plan.now.boxes.now a.plan.now.parts.now a.plan.now.edges.now a.wanted a.e l.stack l.cursor l.invariant _ _ (yields (goal.at.returns-then-step-e c).In-Some) c.if-step-e.true

pub loop-step-smaller : goal.loop-step-smaller
loop-step-smaller c = (yields (goal.at.loop-step-smaller c).In-Some).less

pub loop-step-preserved : goal.loop-step-preserved
loop-step-preserved c =
    let a = c.args in
    let l = c.loop-step in
    seeking_on a.plan.now.n a.plan.now.boxes.now a.plan.now.parts.now a.plan.now.edges.now a.wanted a.e l.stack l.cursor l.invariant _ _ (c.next.auto.stack ∙ l.invariant.room) (yields (goal.at.loop-step-preserved c).In-Some) c.if-step-e.false

pub returns : goal.returns
returns c =
    let a = c.args in
    let l = c.loop-step in
    seeking_ended a.plan.now.n a.plan.now.boxes.now a.plan.now.parts.now a.plan.now.edges.now a.wanted a.e l.stack l.cursor l.invariant c.next.new.stack (rw c.in_default.is at c.in_ok-step.ensures)
