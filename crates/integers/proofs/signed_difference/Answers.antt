-- `integers::signed_difference` meets its contract: of three borrows one is left.
use Rattle.std.proofs.Common.{arith}
use Rattle.integers.proofs.Borrows.{size_small, difference_exact}
use Rattle.integers.proofs.signed_difference.Goals as goal

pub returns : goal.returns
returns c =
    let d = c.subtract-d in
    difference_exact c.args.p c.args.q d.result (size_small d.result.words (omega arith) (omega arith)) c.requires d.ensures
