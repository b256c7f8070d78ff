-- `gather::collect::collect` meets its contract, leaf by leaf.
use mathlib.Core.Path.{refl, sym, ◌∙◌, subst}
use native.Mathlib.Omega.{arith}
use Rattle.std.proofs.lemmas.Result.{err_from_is_err_and}
use Rattle.walk.specs.declared.Cursor.{Cursor}
use Rattle.walk.specs.Steps.{InHand}
use Rattle.gather.proofs.Collecting.{Collecting, collecting_start, collecting_on, collecting_end, collecting_never, leaf_stopped}
use Rattle.gather.proofs.collect.collect.Goals as goal
use Rattle.gather.proofs.collect.collect.Goals.{In-Some}

pub loop-leaf-init : goal.loop-leaf-init
loop-leaf-init c =
    let a = c.args in
    (refl, c.requires.room, refl, λ S T. collecting_start a.plan.now.n a.plan.now.count a.plan.now.corners.now a.plan.now.rings.now a.plan.now.boxes.now a.plan.now.parts.now a.plan.now.edges.now S a.ray a.query a.p _ c.start-cursor.result a.layout a.listed.now a.slots.now (omega arith) refl c.start-cursor.ensures T)

pub returns-in_err-leaf : goal.returns-in_err-leaf
returns-in_err-leaf c =
    let a = c.args in
    let l = c.loop-leaf in
    let refused = err_from_is_err_and c.from_residual.result c.from_residual.ensures.1 in
    rw (refused.1, refused.2) (λ S T. collecting_never a.plan.now.n a.plan.now.count a.plan.now.corners.now a.plan.now.rings.now a.plan.now.boxes.now a.plan.now.parts.now a.plan.now.edges.now S a.ray a.query a.p l.stack l.cursor l.here.layout l.listed l.slots (l.invariant.3 S T) c.in_err-leaf.ensures.never)

-- the leaf in hand
in_hand : (c : In-Some) → let a = c.args in let l = c.loop-leaf in
    InHand a.plan.now.n a.plan.now.boxes.now a.plan.now.parts.now a.plan.now.edges.now a.query l.stack l.cursor c.next_leaf.new.stack c.in-Some.leaf
in_hand c = rw c.in-Some.is at c.in_ok-leaf.ensures

pub returns-in_err-here : goal.returns-in_err-here
returns-in_err-here c =
    let a = c.args in
    let l = c.loop-leaf in
    let leaf = c.in-Some.leaf in
    let refused = err_from_is_err_and c.from_residual-in_err-here.result c.from_residual-in_err-here.ensures.1 in
    rw (refused.1, refused.2) (leaf_stopped a.plan.now.n a.plan.now.count a.plan.now.corners.now a.plan.now.rings.now a.plan.now.boxes.now a.plan.now.parts.now a.plan.now.edges.now a.ray a.query a.p leaf.at leaf.to (in_hand (goal.at.returns-in_err-here c).In-Some).going.inside a.layout l.here.layout l.invariant.2 a.listed.now l.listed a.slots.now l.slots c.note_leaf.new.listed c.note_leaf.new.slots _ c.in_err-here.ensures)

pub loop-leaf-preserved : goal.loop-leaf-preserved
loop-leaf-preserved c =
    let a = c.args in
    let l = c.loop-leaf in
    let H = in_hand (goal.at.loop-leaf-preserved c).In-Some in
    let N = c.in_ok-here.ensures in (
      c.next_leaf.auto.stack ∙ l.invariant.0,
      N.room,
      N.same ∙ l.invariant.2,
      λ S T. subst (λ (x : Cursor). Collecting a.plan.now.n a.plan.now.count a.plan.now.corners.now a.plan.now.rings.now a.plan.now.parts.now a.plan.now.edges.now a.ray a.query a.p c.next_leaf.new.stack x c.in_ok-here.here.layout c.note_leaf.new.listed c.note_leaf.new.slots) (sym c.past_leaf-cursor.ensures)
          (collecting_on a.plan.now.n a.plan.now.count a.plan.now.corners.now a.plan.now.rings.now a.plan.now.boxes.now a.plan.now.parts.now a.plan.now.edges.now S a.ray a.query a.p l.stack l.cursor l.here.layout l.listed l.slots (l.invariant.3 S T) _ _ _ _ _ H N),
    )

pub returns : goal.returns
returns c =
    let a = c.args in
    let l = c.loop-leaf in
    record { room = l.invariant.1; told = λ S T. collecting_end a.plan.now.n a.plan.now.count a.plan.now.corners.now a.plan.now.rings.now a.plan.now.boxes.now a.plan.now.parts.now a.plan.now.edges.now S a.ray a.query a.p l.stack l.cursor l.here.layout l.listed l.slots (l.invariant.3 S T) c.next_leaf.new.stack (rw c.in_default.is at c.in_ok-leaf.ensures) }
