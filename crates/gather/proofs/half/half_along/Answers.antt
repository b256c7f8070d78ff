-- `gather::half::half_along` meets its contract.
use mathlib.Core.Path.{◌≡◌, ap, ◌∙◌, subst}
use native.Mathlib.Omega.{arith}
use Rattle.std.proofs.lemmas.Result.{err_from_is_err_and}
use Rattle.std.specs.Prelude.{Bool, Option, Some, None, Result, Ok, Err}
use Rattle.rules.specs.declared.Unsound.{Unsound}
use Rattle.rules.specs.declared.Location.TheVariants.{OnBoundary}
use Rattle.rules.specs.Plans.{rings_of}
use Rattle.rules.specs.Replies.{half_reply}
use Rattle.boxes.specs.Boxes.{rect_at}
use Rattle.index.proofs.Counts.{node_count_some}
use Rattle.rays.specs.Reach.{half_rect}
use Rattle.walk.specs.declared.LentPlan.{LentPlan}
use Rattle.walk.specs.declared.Query.{Query}
use Rattle.walk.specs.declared.Query.TheVariants.{Meeting}
use Rattle.gather.specs.Halves.{ParityIn}
use Rattle.gather.specs.Lent.{plan_in, lent_by}
use Rattle.gather.proofs.Placing.{walked_sound}
use Rattle.gather.proofs.HalfCrossing.{half_on, half_parity}
use Rattle.gather.proofs.Looking.{looked_at, looked_never}
use Rattle.gather.proofs.half.half_along.Goals as goal
use Rattle.gather.proofs.half.half_along.Goals.{After-parity_by}

-- what the walk says, in the tables
says : (c : After-parity_by) → let a = c.args in (r : Result (Option Bool) Unsound) → ParityIn c.lent.result a.ray a.p (Meeting c.half_rect.result) r
    → ParityIn (lent_by a.state a.tables.now) a.ray a.p (Meeting (half_rect a.ray (rect_at a.tables.now.boxes.now 0) a.p)) r
says c r h =
    let a = c.args in
    let t = a.tables.now in
    let query : Meeting c.half_rect.result ≡ Meeting (half_rect a.ray (rect_at t.boxes.now 0) a.p) = ap Meeting (c.half_rect.ensures ∙ ap (λ root. half_rect a.ray root a.p) c.rect_at.ensures) in
    subst (λ (q : Query). ParityIn (lent_by a.state t) a.ray a.p q r) query
    (subst (λ (plan : LentPlan). ParityIn plan a.ray a.p (Meeting c.half_rect.result) r) c.lent.ensures h)

pub rect_at-requires : goal.rect_at-requires
rect_at-requires c = omega (arith, c.if-not-are_enough.ensures.boxes_reach, node_count_some c.args.state.corners)

pub returns-in-Some : goal.returns-in-Some
returns-in-Some c =
    let a = c.args in
    let t = a.tables.now in
    looked_at a.state t.corners.now t.rings.now t.polygons.now t.boxes.now t.parts.now t.edges.now (half_reply (rings_of (plan_in a.state t)) a.p) c.if-not-are_enough.ensures c.odd_place.result (λ S. c.odd_place.ensures ∙ half_parity a.state t.corners.now t.rings.now t.polygons.now t.boxes.now t.parts.now t.edges.now S a.ray a.p c.in-Some.odd
    (says (goal.at.returns-in-Some c).After-parity_by (Ok (Some c.in-Some.odd)) (rw c.in-Some.is at c.in_ok-odd.ensures) (walked_sound a.state t.corners.now t.rings.now t.polygons.now t.boxes.now t.parts.now t.edges.now S)))

pub returns-in-None : goal.returns-in-None
returns-in-None c =
    let a = c.args in
    let t = a.tables.now in
    looked_at a.state t.corners.now t.rings.now t.polygons.now t.boxes.now t.parts.now t.edges.now (half_reply (rings_of (plan_in a.state t)) a.p) c.if-not-are_enough.ensures OnBoundary (λ S. half_on a.state t.corners.now t.rings.now t.polygons.now t.boxes.now t.parts.now t.edges.now S a.ray a.p (says (goal.at.returns-in-None c).After-parity_by (Ok None) (rw c.in-None.is at c.in_ok-odd.ensures) (walked_sound a.state t.corners.now t.rings.now t.polygons.now t.boxes.now t.parts.now t.edges.now S)))

pub returns-in_err-odd : goal.returns-in_err-odd
returns-in_err-odd c =
    let a = c.args in
    let t = a.tables.now in
    let refused = err_from_is_err_and c.from_residual.result c.from_residual.ensures.1 in
    rw (refused.1, refused.2) (looked_never a.state t.corners.now t.rings.now t.polygons.now t.boxes.now t.parts.now t.edges.now (half_reply (rings_of (plan_in a.state t)) a.p) (λ S. says (goal.at.returns-in_err-odd c).After-parity_by (Err c.in_err-odd.field-0.0) c.in_err-odd.ensures (walked_sound a.state t.corners.now t.rings.now t.polygons.now t.boxes.now t.parts.now t.edges.now S)))
