-- `walk::next` meets its contract: the edge at the first place of the leaf in hand.
use mathlib.Core.Path.{subst, sym}
use lib.ListN.{get_or}
use Rattle.walk.specs.declared.Cursor.{Cursor}
use Rattle.walk.specs.Steps.{InHand, Yields}
use Rattle.walk.proofs.Turning.{going_astray, going_yields}
use Rattle.walk.proofs.next.Goals as goal
use Rattle.walk.proofs.next.Goals.{In-Some}

-- the leaf in hand
in_hand : (c : In-Some) → InHand c.args.plan.now.n c.args.plan.now.boxes.now c.args.plan.now.parts.now c.args.plan.now.edges.now c.args.query c.args.stack.now c.args.cursor c.next_leaf.new.stack c.in-Some.here
in_hand c = rw c.in-Some.is at c.in_ok-here.ensures

pub returns-then-plan-edge : goal.returns-then-plan-edge
returns-then-plan-edge c =
    let a = c.args in
    let leaf = in_hand (goal.at.returns-then-plan-edge c).In-Some in
    going_astray a.plan.now.n a.plan.now.boxes.now a.plan.now.parts.now a.plan.now.edges.now a.query a.stack.now a.cursor c.next_leaf.new.stack c.in-Some.here leaf.going leaf.some c.if-plan-edge.true

pub returns : goal.returns
returns c =
    let a = c.args in
    let leaf = in_hand (goal.at.returns c).In-Some in
    subst (λ (after : Cursor). Yields a.plan.now.n a.plan.now.boxes.now a.plan.now.parts.now a.plan.now.edges.now a.query a.stack.now a.cursor c.next_leaf.new.stack (record { edge = get_or a.plan.now.edges.now c.in-Some.here.at 0; after = after })) (sym c.at_place.ensures)
    (going_yields a.plan.now.n a.plan.now.boxes.now a.plan.now.parts.now a.plan.now.edges.now a.query a.stack.now a.cursor c.next_leaf.new.stack c.in-Some.here leaf.going leaf.some c.if-plan-edge.false)
