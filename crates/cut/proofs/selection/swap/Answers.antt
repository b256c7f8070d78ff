-- `cut::selection::swap` meets its contract.
use mathlib.Core.Path.{refl}
use Rattle.cut.specs.Shuffle.{swapped}
use Rattle.cut.proofs.selection.swap.Goals as goal

pub returns : goal.returns
unfolding swapped
returns c = refl
