-- `boxes::start_of` meets its contract.
use mathlib.Core.Path.{sym, ap, ◌∙◌}
use native.Mathlib.Omega.{arith}
use Rattle.boxes.specs.Rings.{start_of}
use Rattle.boxes.proofs.Rings.{start_zero, start_pred}
use Rattle.boxes.proofs.start_of.Goals as goal

pub returns-then-r-eq0 : goal.returns-then-r-eq0
returns-then-r-eq0 c = sym (ap (start_of c.args.rings.now) c.if-r-eq0.true ∙ start_zero c.args.rings.now)

pub returns-else-r-eq0 : goal.returns-else-r-eq0
returns-else-r-eq0 c = let a = c.args in sym (start_pred a.rings.now a.r (omega arith))
