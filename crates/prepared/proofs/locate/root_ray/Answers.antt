-- `prepared::locate::root_ray` meets its contract.
use Rattle.std.proofs.Common.{sym, ap, ◌∙◌, arith}
use Rattle.boxes.specs.Boxes.{rect_at}
use Rattle.rules.specs.Rays.{ray_of}
use Rattle.rays.specs.Doubles.{near_doubled_rect}
use Rattle.prepared.specs.Calls.{spot_ray}
use Rattle.prepared.proofs.locate.root_ray.Goals as goal

pub returns-then-boxes-eq0 : goal.returns-then-boxes-eq0
returns-then-boxes-eq0 c = λ h. let e = c.if-boxes-eq0.true in absurd (omega arith)

pub returns-in-OnGrid : goal.returns-in-OnGrid
returns-in-OnGrid c = λ h. let a = c.args in c.ray_of.ensures ∙ ap (λ root. ray_of a.n root c.in-OnGrid.p) c.rect_at-root.ensures ∙ ap (spot_ray a.n (rect_at a.boxes.now 0)) (sym c.in-OnGrid.is)

pub returns-in-Doubled : goal.returns-in-Doubled
returns-in-Doubled c = λ h. let a = c.args in c.ray_of-in-Doubled.ensures ∙ ap (λ root. ray_of a.n root c.in-Doubled.p) (c.doubled_rect.ensures ∙ ap near_doubled_rect c.rect_at-root.ensures) ∙ ap (spot_ray a.n (rect_at a.boxes.now 0)) (sym c.in-Doubled.is)
