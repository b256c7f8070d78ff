-- `gather::half::parity_by` meets its contract, leaf by leaf.
use mathlib.Core.Path.{refl, sym, ◌∙◌, subst}
use native.Mathlib.Omega.{arith}
use lib.ListN.{get_or}
use Rattle.index.proofs.Soundness.{edge_in}
use Rattle.std.proofs.lemmas.Result.{err_from_is_err_and}
use Rattle.walk.specs.declared.Cursor.{Cursor}
use Rattle.walk.specs.Steps.{InHand}
use Rattle.rays.specs.Numbered.{half_crossing_at}
use Rattle.gather.proofs.Collecting.{leaf_sound_lem}
use Rattle.gather.proofs.HalfCrossing.{HalfWalking, crossing_start, crossing_on, crossing_end, crossing_never}
use Rattle.gather.proofs.half.parity_by.Goals as goal
use Rattle.gather.proofs.half.parity_by.Goals.{In-Some}

pub loop-leaf-init : goal.loop-leaf-init
loop-leaf-init c =
    let a = c.args in
    (refl, λ S. crossing_start a.plan.now.n a.plan.now.count a.plan.now.corners.now a.plan.now.rings.now a.plan.now.boxes.now a.plan.now.parts.now a.plan.now.edges.now S a.query (half_crossing_at a.plan.now.n a.plan.now.corners.now a.plan.now.rings.now a.ray a.p) _ c.start-cursor.result (omega arith) refl c.start-cursor.ensures)

pub returns-in_err-leaf : goal.returns-in_err-leaf
returns-in_err-leaf c =
    let a = c.args in
    let l = c.loop-leaf in
    let refused = err_from_is_err_and c.from_residual.result c.from_residual.ensures.1 in
    rw refused.1 (λ S. crossing_never a.plan.now.n a.plan.now.count a.plan.now.corners.now a.plan.now.rings.now a.plan.now.boxes.now a.plan.now.parts.now a.plan.now.edges.now S a.query (half_crossing_at a.plan.now.n a.plan.now.corners.now a.plan.now.rings.now a.ray a.p) l.stack l.cursor l.here.odd (l.invariant.1 S) c.in_err-leaf.ensures.never)

-- the leaf in hand
in_hand : (c : In-Some) → let a = c.args in let l = c.loop-leaf in
    InHand a.plan.now.n a.plan.now.boxes.now a.plan.now.parts.now a.plan.now.edges.now a.query l.stack l.cursor c.next_leaf.new.stack c.in-Some.leaf
in_hand c = rw c.in-Some.is at c.in_ok-leaf.ensures

pub returns-in_err-further : goal.returns-in_err-further
returns-in_err-further c =
    let a = c.args in
    let H = in_hand (goal.at.returns-in_err-further c).In-Some in
    let refused = err_from_is_err_and c.from_residual-in_err-further.result c.from_residual-in_err-further.ensures.1 in
    rw refused.1 (λ S. leaf_sound_lem a.plan.now.n a.plan.now.count a.plan.now.corners.now a.plan.now.rings.now a.plan.now.boxes.now a.plan.now.parts.now a.plan.now.edges.now S a.ray a.query a.p c.in-Some.leaf.at c.in-Some.leaf.to H.going.inside c.in_err-further.ensures)

pub returns-in_default-2 : goal.returns-in_default-2
returns-in_default-2 c =
    let a = c.args in
    let H = in_hand (goal.at.returns-in_default-2 c).In-Some in
    let E = rw c.in_default-2.is at c.in_ok-further.ensures in
    λ S. record { edge = get_or a.plan.now.edges.now E.0 0; inside = edge_in a.plan.now.n a.plan.now.corners.now a.plan.now.rings.now a.plan.now.boxes.now a.plan.now.parts.now a.plan.now.edges.now S.walk.index E.0 (omega (arith, E.1, H.going.inside)); on = E.2 S.ends }

pub loop-leaf-preserved : goal.loop-leaf-preserved
loop-leaf-preserved c =
    let a = c.args in
    let l = c.loop-leaf in
    let H = in_hand (goal.at.loop-leaf-preserved c).In-Some in (
      c.next_leaf.auto.stack ∙ l.invariant.0,
      λ S. subst (λ (x : Cursor). HalfWalking a.plan.now.n a.plan.now.corners.now a.plan.now.rings.now a.plan.now.parts.now a.plan.now.edges.now a.query (half_crossing_at a.plan.now.n a.plan.now.corners.now a.plan.now.rings.now a.ray a.p) c.next_leaf.new.stack x c.in-Some-2.further.odd) (sym c.past_leaf-cursor.ensures)
          (crossing_on a.plan.now.n a.plan.now.count a.plan.now.corners.now a.plan.now.rings.now a.plan.now.boxes.now a.plan.now.parts.now a.plan.now.edges.now S a.query (half_crossing_at a.plan.now.n a.plan.now.corners.now a.plan.now.rings.now a.ray a.p) l.stack l.cursor l.here.odd (l.invariant.1 S) _ _ _ H (rw c.in-Some-2.is at c.in_ok-further.ensures)),
    )

pub returns : goal.returns
returns c =
    let a = c.args in
    let l = c.loop-leaf in
    λ S. crossing_end a.plan.now.n a.plan.now.count a.plan.now.corners.now a.plan.now.rings.now a.plan.now.boxes.now a.plan.now.parts.now a.plan.now.edges.now S a.query (half_crossing_at a.plan.now.n a.plan.now.corners.now a.plan.now.rings.now a.ray a.p) l.stack l.cursor l.here.odd (l.invariant.1 S) c.next_leaf.new.stack (rw c.in_default.is at c.in_ok-leaf.ensures)
