-- `writer::lengths::ring_length` meets its contract.
use Rattle.writer.proofs.Measures.{ring_counted}
use Rattle.writer.proofs.lengths.ring_length.Goals as goal

pub returns : goal.returns
returns c = ring_counted c.args.ring.now c.requires.0 c.requires.2 _ _ c.decimals-all.ensures c.decimals-again.ensures
