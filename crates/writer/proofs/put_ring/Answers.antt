-- `writer::put_ring` meets its contract.
use mathlib.Core.Path.{sym, subst}
use Prim.Native.Nat.{◌+◌, ◌≤◌}
use mathlib.Core.List.{◌++◌}
use lib.ListN.{length}
use Rattle.fields.specs.Written.{Wrote}
use Rattle.grammar.specs.Texts.{pair_text}
use Rattle.writer.specs.Drawn.{lead}
use Rattle.writer.proofs.Corners.{ring_parts}
use Rattle.writer.proofs.Leads.{room_one, room_two, room_three, wrote_three}
use Rattle.writer.proofs.put_ring.Goals as goal

pub put_corners-open-requires : goal.put_corners-open-requires
put_corners-open-requires c = let a = c.args in room_one (ring_parts a.ring.now c.requires.0) a.at a.output.now c.requires.1

pub put_next-again-requires : goal.put_next-again-requires
put_next-again-requires c =
    let a = c.args in
    let p = c.put_corners-open in
    subst (λ q. p.result + length (lead 1 ++ pair_text q) ≤ length p.new.output) (sym c.corner_at.ensures) (room_two (ring_parts a.ring.now c.requires.0) a.at a.output.now c.requires.1 _ _ p.ensures)

pub put-requires : goal.put-requires
put-requires c =
    let a = c.args in
    let p = c.put_corners-open in
    let q = c.put_next-again in
    room_three (ring_parts a.ring.now c.requires.0) a.at a.output.now c.requires.1 _ _ p.ensures _ _
    (subst (λ s. Wrote p.result (lead 1 ++ pair_text s) p.new.output q.new.output q.result) c.corner_at.ensures q.ensures)

pub returns : goal.returns
returns c =
    let a = c.args in
    let p = c.put_corners-open in
    let q = c.put_next-again in
    wrote_three (ring_parts a.ring.now c.requires.0) a.at a.output.now c.requires.1 _ _ p.ensures _ _
    (subst (λ s. Wrote p.result (lead 1 ++ pair_text s) p.new.output q.new.output q.result) c.corner_at.ensures q.ensures) _ _ c.put.ensures
