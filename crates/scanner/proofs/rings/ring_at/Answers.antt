-- `scanner::rings::ring_at` meets its contract.
use Rattle.grammar.proofs.Steps.{byte_same, byte_differs}
use Rattle.scanner.proofs.RingScans.{open_off, opened}
use Rattle.scanner.proofs.rings.ring_at.Goals as goal

pub returns-then-ne : goal.returns-then-ne
returns-then-ne c = let m = c.next_byte-open.result in open_off c.args.text.now c.args.at m c.next_byte-open.ensures (byte_differs m.byte 40 c.if-ne.ensures)

pub returns : goal.returns
returns c = let m = c.next_byte-open.result in opened c.args.text.now c.args.at m c.next_byte-open.ensures c.args.extent c.args.corners.now _ c.args.lengths.now _ c.ring.result (byte_same m.byte 40 c.if-ne.ensures) c.ring.ensures
