-- `walk::edges::ring_at` meets its contract.
use native.Mathlib.Omega.{arith}
use Rattle.boxes.proofs.Rings.{searchable}
use Rattle.walk.proofs.edges.ring_at.Goals as goal

pub returns-then-count-eq0 : goal.returns-then-count-eq0
returns-then-count-eq0 c = λ n ends one. let found = searchable n c.args.count c.args.rings.now ends c.args.e one in grind (arith, found, ends, c.then-count-eq0.branch)
