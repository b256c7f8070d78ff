-- `gather::region::many_rings` meets its contract.
use mathlib.Core.Bool.{false}
use native.Mathlib.Omega.{arith}
use lib.IntN.{pos}
use lib.ListN.{get_or-replicate}
use Rattle.gather.specs.Lent.{SoundIn}
use Rattle.gather.proofs.Tallying.{each_none}
use Rattle.gather.proofs.Looking.{region_from}
use Rattle.gather.proofs.region.many_rings.Goals as goal

pub returns : goal.returns
returns c =
    let a = c.args in
    region_from false (SoundIn a.state a.tables.now) _ _ c.region_by.result (each_none a.state.rings _ _ (λ k h. get_or-replicate 65536 k (pos 0) (pos 0) (omega (arith, c.requires.0)))) c.region_by.ensures
