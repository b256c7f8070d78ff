-- `writer::put_corners` meets its contract.
use mathlib.Core.Path.{sym, subst}
use Prim.Native.Nat.{◌+◌, ◌≤◌}
use native.Mathlib.Omega.{arith}
use mathlib.Core.List.{◌++◌}
use lib.ListN.{length}
use Rattle.fields.specs.Written.{Wrote}
use Rattle.rules.specs.Plans.{corners_of, corner_at}
use Rattle.grammar.specs.Texts.{pair_text}
use Rattle.writer.specs.Drawn.{lead}
use Rattle.writer.proofs.Leads.{going, kept, next_room, going_on, gone}
use Rattle.writer.proofs.Corners.{corner_here, corners_over}
use Rattle.writer.proofs.put_corners.Goals as goal

pub loop-i-init : goal.loop-i-init
loop-i-init c = let a = c.args in (omega arith, going pair_text (corners_of a.ring.now) a.at a.output.now)

pub put_next-place-requires : goal.put_next-place-requires
put_next-place-requires c =
    let a = c.args in
    let l = c.loop-i in
    subst (λ p. l.place + length (lead l.i ++ pair_text p) ≤ length l.output) (sym c.corner_at.ensures)
    (next_room pair_text (corners_of a.ring.now) a.at a.output.now c.requires l.output l.place l.i l.invariant.1 (corner_at a.ring.now l.i) (corner_here a.ring.now l.i c.loop-i-test.true))

pub loop-i-preserved : goal.loop-i-preserved
loop-i-preserved c =
    let a = c.args in
    let l = c.loop-i in (
      omega (arith, c.loop-i-test.true),
      going_on pair_text (corners_of a.ring.now) a.at a.output.now c.requires l.output l.place l.i l.invariant.1 (corner_at a.ring.now l.i) (corner_here a.ring.now l.i c.loop-i-test.true) _ _
          (subst (λ p. Wrote l.place (lead l.i ++ pair_text p) l.output c.put_next-place.new.output c.put_next-place.result) c.corner_at.ensures c.put_next-place.ensures),
    )

pub shape_of-output : goal.shape_of-output
shape_of-output c = let a = c.args in let l = c.loop-i in kept pair_text (corners_of a.ring.now) a.at a.output.now c.requires l.output l.place l.i l.invariant.1

pub returns : goal.returns
returns c = let a = c.args in let l = c.loop-i in gone pair_text (corners_of a.ring.now) a.at a.output.now c.requires l.output l.place l.i l.invariant.1 (corners_over a.ring.now l.i c.loop-i-test.false)
