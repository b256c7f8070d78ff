-- `answers::replies::place_at` meets its contract.
use mathlib.Core.Path.{◌≡◌, ap, ◌∙◌}
use Rattle.std.specs.Prelude.{Ok}
use Rattle.std.specs.Result.{result_unwrap_or}
use Rattle.rules.specs.declared.Location.TheVariants.{Outside}
use Rattle.rules.specs.Spots.{spot_reply}
use Rattle.rules.specs.Tables.{plan_of}
use Rattle.answers.proofs.LookUps.{spot_looked}
use Rattle.answers.proofs.replies.place_at.Goals as goal

pub returns : goal.returns
returns c =
    let a = c.args in
    let looked : c.locate.result ≡ Ok (spot_reply (plan_of a.state a.tables.now.corners.now a.tables.now.rings.now a.tables.now.polygons.now) a.spot) = spot_looked a.state a.tables.now.corners.now a.tables.now.rings.now a.tables.now.polygons.now a.tables.now.boxes.now a.tables.now.parts.now a.tables.now.edges.now c.requires a.spot c.locate.result c.locate.ensures in
    c.unwrap_or.ensures ∙ ap (λ r. result_unwrap_or r Outside) looked
