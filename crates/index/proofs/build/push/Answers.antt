-- `index::build::push` meets its contract.
use Rattle.index.proofs.Tables.{two}
use Rattle.index.proofs.build.push.Goals as goal

pub returns : goal.returns
returns c = two c.args.waiting.now c.args.top c.args.below c.args.above c.requires
