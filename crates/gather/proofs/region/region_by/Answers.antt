-- `gather::region::region_by` meets its contract.
use mathlib.Core.Path.{◌≡◌, sym, ap, ◌∙◌, subst}
use Prim.Native.Nat.{ℕ}
use Rattle.boxes.specs.Boxes.{rect_at}
use Rattle.walk.specs.declared.LentPlan.{LentPlan}
use Rattle.walk.specs.declared.Query.{Query}
use Rattle.walk.specs.declared.Query.TheVariants.{Meeting}
use Rattle.rays.specs.Reach.{ray_rect}
use Rattle.std.proofs.lemmas.Result.{err_from_is_err_and}
use Rattle.std.specs.Prelude.{Ok, Err}
use Rattle.gather.specs.Collections.{CollectIn}
use Rattle.gather.specs.Lent.{plan_in, lent_by}
use Rattle.gather.specs.Regions.{FoldSays, region_reply}
use Rattle.gather.proofs.Looking.{fold_stated, region_stopped}
use Rattle.gather.proofs.Placing.{walked_sound, region_told}
use Rattle.gather.proofs.region.region_by.Goals as goal

pub returns-in_err-whole : goal.returns-in_err-whole
returns-in_err-whole c =
    let a = c.args in
    let t = a.tables.now in
    let refused = err_from_is_err_and c.from_residual.result c.from_residual.ensures.1 in
    rw (refused.1, refused.2) (region_stopped a.state.corners a.state.rings t.corners.now t.rings.now t.boxes.now t.parts.now t.edges.now a.ray (Meeting c.ray_rect.result) a.p a.layout a.listed.now a.slots.now c.collect.new.listed c.collect.new.slots _ (region_reply (plan_in a.state t) a.p)
    (λ S. (walked_sound a.state t.corners.now t.rings.now t.polygons.now t.boxes.now t.parts.now t.edges.now S.0, S.1)) c.in_err-whole.field-0.0 (subst (λ (plan : LentPlan). CollectIn plan a.ray (Meeting c.ray_rect.result) a.p a.layout a.listed.now a.slots.now c.collect.new.listed c.collect.new.slots (Err c.in_err-whole.field-0.0)) c.lent-plan.ensures c.in_err-whole.ensures))

pub returns : goal.returns
returns c =
    let a = c.args in
    let t = a.tables.now in
    let whole = c.in_ok-whole.whole in
    let query : Meeting c.ray_rect.result ≡ Meeting (ray_rect a.ray (rect_at t.boxes.now 0) a.p) = ap Meeting (c.ray_rect.ensures ∙ ap (λ root. ray_rect a.ray root a.p) c.rect_at.ensures) in
    let gathered = subst (λ (q : Query). CollectIn (lent_by a.state t) a.ray q a.p a.layout a.listed.now a.slots.now c.collect.new.listed c.collect.new.slots (Ok whole)) query
    (subst (λ (plan : LentPlan). CollectIn plan a.ray (Meeting c.ray_rect.result) a.p a.layout a.listed.now a.slots.now c.collect.new.listed c.collect.new.slots (Ok whole)) c.lent-plan.ensures c.in_ok-whole.ensures) in
    λ S. region_told a.state t.corners.now t.rings.now t.polygons.now t.boxes.now t.parts.now t.edges.now S.0 a.ray a.p whole _ _
    (gathered.told (walked_sound a.state t.corners.now t.rings.now t.polygons.now t.boxes.now t.parts.now t.edges.now S.0) S.1)
    c.fold_slots.result (fold_stated a.state.kind a.state.polygons t.polygons.now a.state.rings whole c.collect.new.listed c.collect.new.slots c.fold_slots.result
    (subst (λ (m : ℕ). FoldSays a.state.kind t.polygons.now m a.state.rings whole c.collect.new.listed c.collect.new.slots c.fold_slots.result) c.polygons_in-polygon_count.ensures c.fold_slots.ensures))
