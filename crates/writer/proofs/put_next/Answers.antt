-- `writer::put_next` meets its contract.
use Rattle.grammar.specs.Texts.{pair_text}
use Rattle.writer.specs.Drawn.{lead}
use Rattle.writer.proofs.Leads.{first_room, second_room, wrote_both}
use Rattle.writer.proofs.put_next.Goals as goal

pub put_lead-next-requires : goal.put_lead-next-requires
put_lead-next-requires c = let a = c.args in first_room a.at (lead a.i) (pair_text a.p) a.output.now c.requires

pub put_pair-requires : goal.put_pair-requires
put_pair-requires c = let a = c.args in second_room a.at (lead a.i) (pair_text a.p) a.output.now _ _ c.requires c.put_lead-next.ensures

pub returns : goal.returns
returns c = let a = c.args in wrote_both a.at (lead a.i) (pair_text a.p) a.output.now _ _ _ _ c.requires c.put_lead-next.ensures c.put_pair.ensures
