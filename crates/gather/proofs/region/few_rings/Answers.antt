-- `gather::region::few_rings` meets its contract.
use mathlib.Core.Bool.{true}
use Rattle.gather.specs.Lent.{SoundIn}
use Rattle.gather.proofs.Tallying.{listed_none}
use Rattle.gather.proofs.Looking.{region_from}
use Rattle.gather.proofs.region.few_rings.Goals as goal

pub returns : goal.returns
returns c =
    let a = c.args in
    region_from true (SoundIn a.state a.tables.now) _ _ c.region_by.result (listed_none a.state.rings _ _) c.region_by.ensures
