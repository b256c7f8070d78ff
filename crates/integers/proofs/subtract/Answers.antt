-- `integers::subtract` meets its contract: the low words, then the high words with what the low ones borrowed.
use Rattle.integers.proofs.Borrows.{words_exact}
use Rattle.integers.proofs.subtract.Goals as goal

pub returns : goal.returns
returns c = words_exact c.args.p c.args.q _ _ _ _ c.borrowing_sub-lo.ensures c.borrowing_sub-hi.ensures
