-- `gather::tally::reaching` meets its contract.
use native.Mathlib.Omega.{arith}
use Rattle.boxes.proofs.Rings.{start_zero, start_pred}
use Rattle.gather.proofs.tally.reaching.Goals as goal

pub returns-then-used-eq0 : goal.returns-then-used-eq0
returns-then-used-eq0 c = record { few = omega arith; before = omega (arith, start_zero c.args.listed.now); after = λ h. absurd (omega arith) }

pub returns-then-listed-used : goal.returns-then-listed-used
returns-then-listed-used c = record { few = omega arith; before = omega (arith, start_pred c.args.listed.now c.args.used (omega arith), c.if-listed-used.true); after = λ h. absurd (omega arith) }
