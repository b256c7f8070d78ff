-- `scanner::texts::to_end` meets its contract.
use Rattle.grammar.proofs.Steps.{byte_inside, no_byte}
use Rattle.scanner.proofs.TextScans.{end_off, end_whole}
use Rattle.scanner.proofs.texts.to_end.Goals as goal

pub returns-in-Some : goal.returns-in-Some
returns-in-Some c = let m = c.next_byte-next.result in let k = c.next_byte-next.ensures in end_off c.args.text.now c.args.end m k (byte_inside c.args.text.now c.args.end m k _ c.in-Some.is)

pub returns-in-None : goal.returns-in-None
returns-in-None c = let m = c.next_byte-next.result in let k = c.next_byte-next.ensures in end_whole c.args.text.now c.args.end m k (no_byte c.args.text.now c.args.end m k c.in-None.is)
