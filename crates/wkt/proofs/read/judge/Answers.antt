-- `wkt::read::judge` meets its contract.
use mathlib.Core.List.{[]}
use Rattle.wkt.proofs.Readings.{judged}
use Rattle.wkt.proofs.read.judge.Goals as goal

pub returns : goal.returns
returns c = let s = c.scan in judged c.args.text.now [] s.new.corners [] s.new.lengths [] s.new.counts s.result s.ensures
